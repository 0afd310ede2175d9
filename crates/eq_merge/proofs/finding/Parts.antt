-- What is equated in a part of a quotient is equated in it, so what is put together there is on the way.
use Rattle.std.proofs.Common.{◌≡◌, ◌≢◌, ◌↔◌, ◌⊎◌, ℕ, ◌≤◌, ◌<◌, List, [], ◌∷◌, ◌++◌, map, length, All, Contains, refl, sym, ap, subst, ◌∙◌, ⊎_elim, inl, inr, arith}
use Rattle.std.proofs.lemmas.List.FromFn.{length-range_with_len}
use Rattle.std.proofs.lemmas.List.Elements.{All-contains, All-weaker, Contains-append_left, Contains-append_right, Contains-append_cases}
use Rattle.list_laws.specs.Lists.{IsUnion}
use Rattle.list_laws.proofs.Decided.{member}
use Rattle.list_laws.proofs.Members.{here, none, parts, all_from_members}
use Rattle.list_laws.proofs.InOrder.{in_order_has}
use Rattle.ranked_terms.specs.declared.term.Config.{Config}
use Rattle.trs_rules.specs.Rules.{RewriteEquation}
use Rattle.ta_core.specs.TreeAutomaton.{TreeAutomaton, IsSound, IsTransOf, bare, trans_of}
use Rattle.ta_core.specs.Runs.{RunsPlain, RunsAllPlain}
use Rattle.ta_core.specs.Acceptance.{image}
use Rattle.ta_core.specs.declared.trans.Trans.{Trans}
use Rattle.ta_core.specs.lemmas.Orders.{trans_total, trans_exact}
use Rattle.eq_merge.specs.Quotients.{AreLeasts, quotient, renamed, apart, followed}
use Rattle.eq_merge.specs.Merging.{Equates}
use Rattle.eq_merge.specs.MergingLaws.{IsInOrder, IsOnTheWay}
use Rattle.eq_merge.specs.Ends.{AreEquatedBy}
use Rattle.eq_merge.specs.Joined.{Joined}
use Rattle.eq_merge.specs.Passes.{IsFurther, IsPart}
use Rattle.eq_merge.specs.Rows.{HasMore}
use Rattle.eq_merge.proofs.quotients.Composition.{state_below, trans_is, quotient_sound, image_followed}
use Rattle.eq_merge.proofs.least.LeastMerges.{quotient_in_order}
use Rattle.eq_merge.proofs.least.AnyOrder.{least_below}
use Rattle.eq_merge.proofs.finding.Leading.{joined_weaker, joined_long}
use Rattle.eq_merge.proofs.finding.OnTheWay.{pass_way, way_after, all_below}

-- ---- runs of a part

module _ {A B : TreeAutomaton} {h : List ℕ} (part : IsPart A h B) where
  mutual
    plain_on : {c : Config} {q : ℕ} → RunsPlain B c q → RunsPlain (quotient A h) c q
    plain_on (RunsPlain.at {q = q} i) = RunsPlain.at (part.states q i)
    plain_on (RunsPlain.app {f = f} {q = q} {cs = cs} {qs = qs} r i) = RunsPlain.app (all_on r) (part.trans (trans_of f qs q) i)

    all_on : {cs : List Config} {qs : List ℕ} → RunsAllPlain B cs qs → RunsAllPlain (quotient A h) cs qs
    all_on RunsAllPlain.none = RunsAllPlain.none
    all_on (RunsAllPlain.more r rs) = RunsAllPlain.more (plain_on r) (all_on rs)

  equates_on : (e : RewriteEquation) (p q : ℕ) → Equates B e p q → Equates (quotient A h) e p q
  equates_on e p q x = record {
    σ = x.σ;
    are_states = All-weaker (λ v. Contains B.states (x.σ v)) (λ v. Contains (quotient A h).states (x.σ v)) (λ v c. part.states (x.σ v) c) e.vars x.are_states;
    left = plain_on x.left;
    right = plain_on x.right;
  }

  equated_on : (E : List RewriteEquation) (p q : ℕ) → AreEquatedBy B E p q → AreEquatedBy (quotient A h) E p q
  equated_on E p q x = (x.0, x.1, ⊎_elim (λ y. inl (equates_on x.0 p q y)) (λ y. inr (equates_on x.0 q p y)) x.2)

-- no number stands for a state that is greater
least_lower : {A : TreeAutomaton} {h : List ℕ} → AreLeasts A h → (q : ℕ) → q < A.next → image h q ≤ q
least_lower {A = A} {h = h} leasts q below =
    ⊎_elim (λ c. leasts.least q c) (λ never. let e = leasts.others q below never in omega (arith, e)) (member A.states q)

module _ {A : TreeAutomaton} (sound : IsSound A) (order : IsInOrder A) {E : List RewriteEquation} where
  pub further_on : (h : List ℕ) (B : TreeAutomaton) (u : List ℕ) → IsOnTheWay E A h → IsPart A h B → Joined (AreEquatedBy B E) (apart B.next) u → IsFurther E A h (followed h u)
  further_on h B u way part joined =
      let Q = quotient A h in
      let next : B.next ≡ Q.next = part.next in
      let wider = joined_weaker (equated_on part E) joined in
      let rest = pass_way (quotient_sound sound h way.leasts) (quotient_in_order A h order) B.next (apart B.next) u next refl wider in
      record {
        way = way_after sound way rest;
        lower = λ q below.
            let here : q < length h = omega (arith, below, way.leasts.each) in
            let low = least_lower rest.leasts (image h q) (least_below sound way.leasts q below) in
            let e = image_followed h u q here in
            omega (arith, e, low);
      }

-- each of the classes has a place in what is joined
pub joined_places : {A : TreeAutomaton} → IsSound A → (E : List RewriteEquation) (h : List ℕ) (B : TreeAutomaton) (u : List ℕ) → AreLeasts A h → IsPart A h B → Joined (AreEquatedBy B E) (apart B.next) u →
    All (λ q. q < length u) h
joined_places {A = A} sound E h B u leasts part joined =
    let long : length u ≡ A.next = joined_long joined ∙ (length-range_with_len 0 B.next ∙ part.next) in
    All-weaker (λ q. q < A.next) (λ q. q < length u) (λ q l. omega (arith, l, long)) h (all_below sound h leasts)

pub further_itself : {E : List RewriteEquation} {A : TreeAutomaton} {h : List ℕ} → IsOnTheWay E A h → IsFurther E A h h
further_itself way = record { way = way; lower = λ q below. omega arith }

pub further_again : {E : List RewriteEquation} {A : TreeAutomaton} {h g k : List ℕ} → IsFurther E A h g → IsFurther E A g k → IsFurther E A h k
further_again a b = record { way = b.way; lower = λ q below. let f = a.lower q below in let s = b.lower q below in omega (arith, f, s) }

-- what was moved is moved still
pub still_moved : {E : List RewriteEquation} {A : TreeAutomaton} {h g : List ℕ} → AreLeasts A h → IsFurther E A h g → (q : ℕ) → q < A.next → image h q ≢ q → image g q ≢ q
still_moved leasts further q below moved same =
    let low = further.lower q below in
    let least = least_lower leasts q below in
    moved (omega (arith, low, least, same))

-- ---- the states of transitions

abbrev pub StandsAt : Trans → ℕ → Type 0
StandsAt t q = Contains (t.args ++ t.to ∷ []) q

pub more_states : (old mid new : List ℕ) (t : Trans) → mid ≡ old ++ t.args → new ≡ mid ++ t.to ∷ [] → (q : ℕ) → (Contains new q → Contains old q ⊎ StandsAt t q) × (Contains old q ⊎ StandsAt t q → Contains new q)
more_states old mid new t mid-is new-is q =
    let e : new ≡ (old ++ t.args) ++ t.to ∷ [] = new-is ∙ ap (λ xs. xs ++ t.to ∷ []) mid-is in (
      λ c. ⊎_elim
          (λ first. ⊎_elim (λ o. inl o) (λ arg. inr (Contains-append_left t.args (t.to ∷ []) q arg)) (Contains-append_cases old t.args q first))
          (λ last. inr (Contains-append_right t.args (t.to ∷ []) q last))
          (Contains-append_cases (old ++ t.args) (t.to ∷ []) q (subst (λ xs. Contains xs q) e c)),
      λ h. subst (λ xs. Contains xs q) (sym e) (⊎_elim
          (λ o. Contains-append_left (old ++ t.args) (t.to ∷ []) q (Contains-append_left old t.args q o))
          (λ k. ⊎_elim (λ arg. Contains-append_left (old ++ t.args) (t.to ∷ []) q (Contains-append_right old t.args q arg))
          (λ last. Contains-append_right (old ++ t.args) (t.to ∷ []) q last) (Contains-append_cases t.args (t.to ∷ []) q k)) h),
    )

pub states_are : (chosen slice : List Trans) (items set : List ℕ) → slice ≡ chosen → HasMore [] slice StandsAt items → ((q : ℕ) → Contains set q ↔ Contains items q) → HasMore [] chosen StandsAt set
states_are chosen slice items set e h s q = (
  λ c. ⊎_elim (λ o. inl o) (λ k. inr (k.0, subst (λ ts. Contains ts k.0) e k.1, k.2)) ((h q).0 ((s q).0 c)),
  λ x. (s q).1 ((h q).1 (⊎_elim (λ o. inl o) (λ k. inr (k.0, subst (λ ts. Contains ts k.0) (sym e) k.1, k.2)) x)),
)

module _ {A : TreeAutomaton} (sound : IsSound A) (h : List ℕ) (leasts : AreLeasts A h) (chosen : List Trans) (among : (t : Trans) → Contains chosen t → Contains (map (renamed h) A.trans) t) (set : List ℕ)
    (states : HasMore [] chosen StandsAt set) where
  abbrev Q : TreeAutomaton
  Q = quotient A h

  pub in_quotient : (t : Trans) → Contains chosen t → Contains Q.trans t
  in_quotient t c = in_order_has trans_total trans_exact (map (renamed h) A.trans) t (among t c)

  pub each_is_there : (q : ℕ) → Contains set q → Contains Q.states q
  each_is_there q c =
      ⊎_elim (λ o. absurd (none q o))
      (λ k. let is = trans_is (quotient_sound sound h leasts) k.0 (in_quotient k.0 k.1) in
      ⊎_elim (λ arg. All-contains (Contains Q.states) k.0.args q is.args arg)
      (λ last. ⊎_elim (λ same. subst (Contains Q.states) same is.to) (λ later. absurd (none q later)) (parts k.0.to q [] last))
      (Contains-append_cases k.0.args (k.0.to ∷ []) q k.2))
      ((states q).0 c)

  pub each_is_below : All (λ q. q < A.next) set
  each_is_below = all_from_members (λ q. q < A.next) set (λ q c. state_below (quotient_sound sound h leasts) q (each_is_there q c))

  pub is_part : (n : ℕ) (part final : TreeAutomaton) (slice : List ℕ) → n ≡ A.next → slice ≡ set → part ≡ bare n slice → IsUnion part.trans chosen final.trans → final ≡ record part { trans = final.trans } →
      IsPart A h final
  is_part n part final slice n-is slice-is made members rest =
      let whole : final ≡ record (bare n slice) { trans = final.trans } = rest ∙ ap (λ (X : TreeAutomaton). record X { trans = final.trans }) made in
      record {
        next = ap (λ (X : TreeAutomaton). X.next) whole ∙ n-is;
        states = λ q c. each_is_there q (subst (λ l. Contains l q) (ap (λ (X : TreeAutomaton). X.states) whole ∙ slice-is) c);
        trans = λ t c. ⊎_elim (λ o. absurd (none t (subst (λ l. Contains l t) (ap (λ (X : TreeAutomaton). X.trans) made) o))) (λ i. in_quotient t i) ((members t).0 c);
      }

  pub between_them : All (IsTransOf set) chosen
  between_them = all_from_members (IsTransOf set) chosen (λ t c. record {
    args = all_from_members (Contains set) t.args (λ q d. (states q).1 (inr (t, c, Contains-append_left t.args (t.to ∷ []) q d)));
    to = (states t.to).1 (inr (t, c, Contains-append_right t.args (t.to ∷ []) t.to (here t.to [])));
  })

-- Merging is the quotient by the least equivalence in whose quotient nothing is forced, and there is only one such.
use Rattle.std.proofs.Common.{◌≡◌, ◌≢◌, ℕ, ◌≤◌, ◌<◌, ◌==◌, ◌⊎◌, min, max, List, [], ◌∷◌, map, Contains, refl, sym, ap, subst, ◌∙◌, ⊎_elim, inl, inr, arith, Bool, true, cond}
use Rattle.std.specs.List.{filter}
use Rattle.std.specs.List.Sorted.{IsStrictlySortedBy}
use Rattle.std.specs.declared.cmp.Ordering.{Ordering}
use Rattle.std.specs.Cmp.{IsTotalOrder}
use Rattle.std.specs.Ordering.{nat_cmp}
use Rattle.std.proofs.lemmas.Grind.{same_number_lists}
use Rattle.std.proofs.lemmas.Cmp.{nat_cmp_total}
use Rattle.std.proofs.lemmas.Map.Lookups.{CmpEqualImpliesEq, exact_unsigned}
use Rattle.std.proofs.lemmas.List.Elements.{All-contains, Contains-append_left, Contains-append_right}
use Rattle.std.proofs.lemmas.List.Kept.{IsStrictlySortedBy-filter}
use Rattle.list_laws.proofs.Decided.{member}
use Rattle.list_laws.proofs.Members.{here, there, none, parts}
use Rattle.list_laws.specs.InOrder.{in_order}
use Rattle.list_laws.proofs.InOrder.{in_order_has, in_order_had, in_order_ascends, same_set}
use Rattle.ranked_terms.specs.declared.term.Config.{Config}
use Rattle.trs_rules.specs.Rules.{RewriteEquation}
use Rattle.ta_core.specs.TreeAutomaton.{TreeAutomaton, IsSound, trans_of, trans_cmp, pair_cmp}
use Rattle.ta_core.specs.Acceptance.{image}
use Rattle.ta_core.specs.declared.trans.Trans.{Trans}
use Rattle.ta_core.specs.Runs.{RunsPlain}
use Rattle.ta_core.specs.lemmas.Orders.{trans_total, trans_exact, pair_total, pair_exact}
use Rattle.ta_core.specs.lemmas.RunsLaws.{run_ends, run_from_plain}
use Rattle.eq_merge.specs.Quotients.{moves, AreLeasts, quotient, renamed, renamed_eps, joining, apart, followed, moves}
use Rattle.eq_merge.specs.Merging.{Forces, ForcedAmong, AreForcedPairs, pairs_of, ForcesNothing, Merged, IsLeastMerge}
use Rattle.eq_merge.specs.MergingLaws.{IsInOrder, MergedIsLeast, LeastMergeIsOne, EquivalencesFactor, Factored}
use Rattle.eq_merge.proofs.quotients.Filtered.{image_in}
use Rattle.eq_merge.proofs.quotients.Survival.{is_same, same_or_not, state_survives, stays_forced}
use Rattle.eq_merge.proofs.quotients.Composition.{not_same, state_below, trans_is, eps_is, final_is, quotient_sound, followed_leasts, quotient_twice, at_state}
use Rattle.eq_merge.proofs.quotients.Joining.{apart_at, apart_leasts, joining_itself, without, into_leasts, without_leasts, joined_first, ordered, lesser_greater}

-- ---- joining

module _ (A : TreeAutomaton) (p q : ℕ) (sound : IsSound A) (is_p : Contains A.states p) (is_q : Contains A.states q) (d : p ≢ q) where
  is_lo : Contains A.states (min p q)
  is_lo = ⊎_elim (λ e. subst (Contains A.states) (sym e.0) is_p) (λ e. subst (Contains A.states) (sym e.0) is_q) (lesser_greater p q)

  pub is_hi : Contains A.states (max p q)
  is_hi = ⊎_elim (λ e. subst (Contains A.states) (sym e.1) is_q) (λ e. subst (Contains A.states) (sym e.1) is_p) (lesser_greater p q)

  pub joining_leasts : AreLeasts A (joining A.next p q)
  joining_leasts = into_leasts sound (ordered p q d) is_lo is_hi

  ends_same : (g : List ℕ) → image g p ≡ image g q → image g (min p q) ≡ image g (max p q)
  ends_same g same = ⊎_elim (λ e. ap (image g) e.0 ∙ (same ∙ ap (image g) (sym e.1))) (λ e. ap (image g) e.0 ∙ (sym same ∙ ap (image g) (sym e.1))) (lesser_greater p q)

  pub factored : (g : List ℕ) → AreLeasts A g → image g p ≡ image g q → Factored A p q g
  factored g leasts same = record {
    rest = without A.next (max p q) g;
    leasts = without_leasts sound (ordered p q d) is_lo is_hi leasts (ends_same g same);
    both = joined_first sound (ordered p q d) is_lo is_hi leasts (ends_same g same);
  }

-- also where the two are one
pub joining_any : (A : TreeAutomaton) (p q : ℕ) → IsSound A → Contains A.states p → Contains A.states q → AreLeasts A (joining A.next p q)
joining_any A p q sound is_p is_q =
    ⊎_elim
    (λ e. subst (AreLeasts A) (sym (joining_itself A.next p q e)) (apart_leasts sound))
    (λ d. joining_leasts A p q sound is_p is_q d) (same_or_not p q)

pub equivalences_factor : EquivalencesFactor
equivalences_factor A p q g sound is_p is_q d leasts same = (joining_leasts A p q sound is_p is_q d, factored A p q sound is_p is_q d g leasts same)

-- ---- the quotient by the equivalence that puts nothing together

filter_all : {X : Type 0} (p : X → Bool) (xs : List X) → ((x : X) → Contains xs x → p x ≡ true) → filter p xs ≡ xs
filter_all p [] h = refl
filter_all p (x ∷ xs) h = ap (λ b. cond b (x ∷ filter p xs) (filter p xs)) (h x (here x xs)) ∙ ap (λ ys. x ∷ ys) (filter_all p xs (λ y c. h y (there x y xs c)))

map_same : {X : Type 0} (f : X → X) (xs : List X) → ((x : X) → Contains xs x → f x ≡ x) → map f xs ≡ xs
map_same f [] h = refl
map_same f (x ∷ xs) h = λ i. h x (here x xs) i ∷ map_same f xs (λ y c. h y (there x y xs c)) i

in_order_same : {K : Type 0} {R : K → K → Ordering} (o : IsTotalOrder R) (exact : CmpEqualImpliesEq R) (xs : List K) → IsStrictlySortedBy R xs → in_order R xs ≡ xs
in_order_same {R = R} o exact xs s = same_set o exact (in_order R xs) xs (in_order_ascends o xs) s (in_order_had o exact xs) (in_order_has o exact xs)

module _ (A : TreeAutomaton) (sound : IsSound A) (order : IsInOrder A) where
  abbrev all : List ℕ
  all = apart A.next

  pub stays : (q : ℕ) → Contains A.states q → image all q ≡ q
  stays q c = apart_at A.next q (state_below sound q c)

  trans_stays : (t : Trans) → Contains A.trans t → renamed all t ≡ t
  trans_stays t c =
      let is = trans_is sound t c in
      λ i. trans_of t.sym (map_same (image all) t.args (λ q d. stays q (All-contains (Contains A.states) t.args q is.args d)) i) (stays t.to is.to i)

  eps_stays : (e : ℕ × ℕ) → Contains A.eps e → renamed_eps all e ≡ e
  eps_stays e c = let is = eps_is sound e c in λ i. (stays e.0 is.from i, stays e.1 is.to i)

  pub quotient_apart : quotient A all ≡ A
  quotient_apart = λ i. record {
    states = filter_all (λ q. image all q == q) A.states (λ q c. is_same (image all q) q (stays q c)) i;
    next = A.next;
    finals = (ap (in_order nat_cmp) (map_same (image all) A.finals (λ q c. stays q (final_is sound q c))) ∙ in_order_same nat_cmp_total exact_unsigned A.finals order.finals) i;
    trans = (ap (in_order trans_cmp) (map_same (renamed all) A.trans trans_stays) ∙ in_order_same trans_total trans_exact A.trans order.trans) i;
    eps = (ap (λ es. in_order pair_cmp (filter moves es)) (map_same (renamed_eps all) A.eps eps_stays)
        ∙ (ap (in_order pair_cmp) (filter_all moves A.eps (λ e c. not_same e.0 e.1 (eps_is sound e c).moves)) ∙ in_order_same pair_total pair_exact A.eps order.eps)) i;
  }

pub quotient_in_order : (A : TreeAutomaton) (h : List ℕ) → IsInOrder A → IsInOrder (quotient A h)
quotient_in_order A h order = record {
  states = IsStrictlySortedBy-filter nat_cmp (λ q. image h q == q) A.states order.states;
  finals = in_order_ascends nat_cmp_total (map (image h) A.finals);
  trans = in_order_ascends trans_total (map (renamed h) A.trans);
  eps = in_order_ascends pair_total (filter moves (map (renamed_eps h) A.eps));
}

-- ---- forced pairs

pub plain_ends : {A : TreeAutomaton} → IsSound A → {c : Config} {q : ℕ} → RunsPlain A c q → Contains A.states q
plain_ends sound r = run_ends sound (run_from_plain r)

pub forced_first : {A : TreeAutomaton} {E : List RewriteEquation} {p q : ℕ} → IsSound A → Forces A E p q → Contains A.states p
forced_first {A = A} {p = p} sound x = ⊎_elim (λ y. plain_ends sound y.left) (λ y. plain_ends sound y.right) x.equates

pub forced_second : {A : TreeAutomaton} {E : List RewriteEquation} {p q : ℕ} → IsSound A → Forces A E p q → Contains A.states q
forced_second {A = A} {q = q} sound x = ⊎_elim (λ y. plain_ends sound y.right) (λ y. plain_ends sound y.left) x.equates

pub first_is_forced : {A : TreeAutomaton} {E : List RewriteEquation} {pairs others : List (ℕ × ℕ)} {p q : ℕ} → ForcedAmong A E pairs ((p, q) ∷ others) → Forces A E p q
first_is_forced (ForcedAmong.forced_one f a) = f
first_is_forced (ForcedAmong.free_one never a) = first_is_forced a

-- each pair of members, the one before the other, is among the pairs; so where none is listed, none is forced
no_forced_among : {A : TreeAutomaton} {E : List RewriteEquation} {pairs xs : List (ℕ × ℕ)} → ForcedAmong A E pairs xs → xs ≡ [] → (p q : ℕ) → Contains pairs (p, q) → Forces A E p q → ⊥
no_forced_among ForcedAmong.none e p q c x = none (p, q) c
no_forced_among (ForcedAmong.forced_one f a) e p q c x = cc
no_forced_among {A = A} {E = E} (ForcedAmong.free_one {p = r} {q = s} {pairs = pairs} never a) e p q c x =
    ⊎_elim (λ same. never (subst (λ (y : ℕ × ℕ). Forces A E y.0 y.1) (sym same) x)) (λ later. no_forced_among a e p q later x) (parts (r, s) (p, q) pairs c)

abbrev Either : List (ℕ × ℕ) → ℕ → ℕ → Type 0
Either pairs p q = Contains pairs (p, q) ⊎ Contains pairs (q, p)

pairs_has : (xs : List ℕ) (p q : ℕ) → Contains xs p → Contains xs q → p ≢ q → Either (pairs_of xs) p q
pairs_has [] p q c d e = absurd (none p c)
pairs_has (x ∷ xs) p q c d e =
    ⊎_elim
    (λ is_p. ⊎_elim (λ is_q. absurd (e (sym is_p ∙ is_q)))
    (λ q_later. inl (subst (λ r. Contains (pairs_of (x ∷ xs)) (r, q)) is_p (Contains-append_left (map (λ q. (x, q)) xs) (pairs_of xs) (x, q) (image_in (λ q. (x, q)) xs q q_later))))
    (parts x q xs d))
    (λ p_later. ⊎_elim
    (λ is_q. inr (subst (λ r. Contains (pairs_of (x ∷ xs)) (r, p)) is_q (Contains-append_left (map (λ q. (x, q)) xs) (pairs_of xs) (x, p) (image_in (λ q. (x, q)) xs p p_later))))
    (λ q_later. ⊎_elim
    (λ i. inl (Contains-append_right (map (λ q. (x, q)) xs) (pairs_of xs) (p, q) i))
    (λ i. inr (Contains-append_right (map (λ q. (x, q)) xs) (pairs_of xs) (q, p) i))
    (pairs_has xs p q p_later q_later e))
    (parts x q xs d))
    (parts x p xs c)

turned : {A : TreeAutomaton} {E : List RewriteEquation} {p q : ℕ} → Forces A E p q → Forces A E q p
turned x = record { differ = λ e. x.differ (sym e); equation = x.equation; is_equation = x.is_equation; equates = ⊎_elim (λ y. inr y) (λ y. inl y) x.equates }

pub nothing_if_none : {A : TreeAutomaton} {E : List RewriteEquation} → IsSound A → AreForcedPairs A E [] → ForcesNothing A E
nothing_if_none {A = A} sound empty p q x =
    ⊎_elim (λ i. no_forced_among empty refl p q i x) (λ i. no_forced_among empty refl q p i (turned x))
    (pairs_has A.states p q (forced_first sound x) (forced_second sound x) x.differ)

-- ---- merging

module _ {A : TreeAutomaton} {E : List RewriteEquation} (sound : IsSound A) {p q : ℕ} (x : Forces A E p q) where
  -- each equivalence in whose quotient nothing is forced puts a forced pair together
  pub must_join : (g : List ℕ) → AreLeasts A g → ForcesNothing (quotient A g) E → image g p ≡ image g q
  must_join g leasts free = ⊎_elim (λ same. same) (λ d. absurd (free (image g p) (image g q) (stays_forced leasts E p q x d))) (same_or_not (image g p) (image g q))

  abbrev f : List ℕ
  f = joining A.next p q

  f_leasts : AreLeasts A f
  f_leasts = joining_leasts A p q sound (forced_first sound x) (forced_second sound x) x.differ

  -- one join before a merge
  pub join_before : {B : TreeAutomaton} {h : List ℕ} → IsLeastMerge E (quotient A f) B h → IsLeastMerge E A B (followed f h)
  join_before {B = B} {h = h} m = record {
    leasts = followed_leasts sound f_leasts m.leasts;
    is_quotient = m.is_quotient ∙ quotient_twice sound f_leasts m.leasts;
    forces_nothing = m.forces_nothing;
    least = λ g leasts free r s is_r is_s same.
        let k = factored A p q sound (forced_first sound x) (forced_second sound x) x.differ g leasts (must_join g leasts free) in
        let one : quotient (quotient A f) k.rest ≡ quotient A g = quotient_twice sound f_leasts k.leasts ∙ ap (quotient A) k.both in
        let joined = m.least k.rest k.leasts (subst (λ X. ForcesNothing X E) (sym one) free) (image f r) (image f s) (state_survives f_leasts r is_r) (state_survives f_leasts s is_s)
        (sym (at_state sound f_leasts m.leasts r is_r) ∙ (same ∙ at_state sound f_leasts m.leasts s is_s)) in
        ap (λ l. image l r) (sym k.both) ∙ (at_state sound f_leasts k.leasts r is_r ∙ (joined ∙ (sym (at_state sound f_leasts k.leasts s is_s) ∙ ap (λ l. image l s) k.both)));
  }

pub is_least : {E : List RewriteEquation} {A B : TreeAutomaton} {h : List ℕ} → Merged E A B h → IsSound A → IsInOrder A → IsLeastMerge E A B h
is_least {E = E} (Merged.done {A = A} empty) sound order = record {
  leasts = apart_leasts sound;
  is_quotient = sym (quotient_apart A sound order);
  forces_nothing = nothing_if_none sound empty;
  least = λ g leasts free r s is_r is_s same. ap (image g) (sym (stays A sound order r is_r) ∙ (same ∙ stays A sound order s is_s));
}
is_least {E = E} (Merged.join {A = A} {p = p} {q = q} forced m) sound order =
    let x = first_is_forced forced in
    join_before sound x (is_least m (quotient_sound sound (joining A.next p q) (f_leasts sound x)) (quotient_in_order A (joining A.next p q) order))

pub merged_is_least : MergedIsLeast
merged_is_least E A B h sound order m = is_least m sound order

-- ---- there is only one

lesser : {E : List RewriteEquation} {A B C : TreeAutomaton} {h g : List ℕ} → IsLeastMerge E A B h → IsLeastMerge E A C g → (q : ℕ) → Contains A.states q → image g q ≤ image h q
lesser {E = E} {A = A} {h = h} {g = g} a b q c =
    let free = subst (λ X. ForcesNothing X E) b.is_quotient b.forces_nothing in
    let same = a.least g b.leasts free q (image h q) c (a.leasts.states q c) (sym (a.leasts.in_class q c)) in
    omega (arith, same, b.leasts.least (image h q) (a.leasts.states q c))

pub least_merge_is_one : LeastMergeIsOne
least_merge_is_one E A B C h g sound a b =
    same_number_lists h g (a.leasts.each ∙ sym b.leasts.each) (λ q below.
    let low : q < A.next = omega (arith, below, a.leasts.each) in
    ⊎_elim (λ c. let u = lesser a b q c in let v = lesser b a q c in omega (arith, u, v)) (λ never. a.leasts.others q low never ∙ sym (b.leasts.others q low never)) (member A.states q))

-- A pass puts together what the equations equate, and nothing else.
use Rattle.std.proofs.Common.{◌≡◌, ℕ, ◌+◌, ◌≤◌, ◌<◌, ◌⊎◌, List, [], ◌∷◌, take, drop, get_or, length, map, Option, Some, None, IfSome, IfNone, Result, Ok, Err, OnOk, All, Contains, refl, sym, ap, subst, ◌∙◌, ⊎_elim, inl, inr, arith}
use Rattle.std.proofs.lemmas.List.{take_more, take-append-drop}
use Rattle.std.proofs.lemmas.List.Elements.{All-contains, Contains-get_or, Contains-append_left, Contains-append_cases}
use Rattle.list_laws.proofs.Members.{here, none, parts}
use Rattle.trs_rules.specs.Rules.{RewriteEquation, IsEquation}
use Rattle.ta_core.specs.TreeAutomaton.{TreeAutomaton, IsSound, trans_of}
use Rattle.ta_core.specs.Growth.{IsLeastTarget, HasNoTarget}
use Rattle.ta_core.specs.Acceptance.{image}
use Rattle.ta_core.specs.declared.trans.Trans.{Trans}
use Rattle.eq_merge.specs.Merging.{Equates, Forces}
use Rattle.eq_merge.specs.MergingLaws.{IsInOrder, IsOnTheWay}
use Rattle.eq_merge.specs.Joined.{put_together, Joined}
use Rattle.eq_merge.specs.Ends.{AreEnds, EndsAt, across, AreEquated, AreEquatedBy, IsLed}
use Rattle.eq_merge.specs.Passes.{IsLeader, IsStep}
use Rattle.eq_merge.proofs.quotients.Survival.{same_or_not, stays_forced}
use Rattle.eq_merge.proofs.quotients.Composition.{state_below, trans_is}
use Rattle.eq_merge.proofs.least.LeastMerges.{plain_ends}
use Rattle.eq_merge.proofs.least.AnyOrder.{joins, least_below}
use Rattle.eq_merge.proofs.quotients.Tables.{together_same, together_long, together_stays, together_now, together_joins}
use Rattle.eq_merge.proofs.finding.Equating.{equated, left_end, right_end}

-- ---- pairs put together, one after the other

pub joined_long : {P : ℕ → ℕ → Type 0} {t u : List ℕ} → Joined P t u → length u ≡ length t
joined_long Joined.none = refl
joined_long (Joined.more {u = u} {p = p} {q = q} j x) = together_long u p q ∙ joined_long j

pub joined_weaker : {P Q : ℕ → ℕ → Type 0} {t u : List ℕ} → ((p q : ℕ) → P p q → Q p q) → Joined P t u → Joined Q t u
joined_weaker f Joined.none = Joined.none
joined_weaker f (Joined.more {p = p} {q = q} j x) = Joined.more (joined_weaker f j) (f p q x)

pub joined_after : {P : ℕ → ℕ → Type 0} {t u v : List ℕ} → Joined P t u → Joined P u v → Joined P t v
joined_after a Joined.none = a
joined_after a (Joined.more b x) = Joined.more (joined_after a b) x

pub joined_stays : {P : ℕ → ℕ → Type 0} {t u : List ℕ} → Joined P t u → (r s : ℕ) → r < length t → s < length t → image t r ≡ image t s → image u r ≡ image u s
joined_stays Joined.none r s l k e = e
joined_stays {t = t} (Joined.more {u = u} {p = p} {q = q} j x) r s l k e =
    together_stays u p q r s (omega (arith, l, joined_long j)) (omega (arith, k, joined_long j)) (joined_stays j r s l k e)

-- what holds where a call wasn't refused has what follows from it
pub on_ok : {B E P Q : Type 0} (r : Result B E) → (P → Q) → OnOk r P → OnOk r Q
on_ok (Ok x) f h = f h
on_ok (Err e) f h = h

-- ---- one end

module _ {B : TreeAutomaton} (sound : IsSound B) where
  pub target_below : (f : ℕ) (ps : List ℕ) (q : ℕ) → IsLeastTarget B f ps q → q < B.next
  target_below f ps q least = state_below sound q (trans_is sound (trans_of f ps q) least.has).to

  -- an end stays led
  stays_led : (old new : List ℕ) (t : Trans) → Contains B.states t.to → B.next ≤ length old → ((r s : ℕ) → r < length old → s < length old → image old r ≡ image old s → image new r ≡ image new s) →
      IsLed B old t → IsLed B new t
  stays_led old new t is long stays led =
      ⊎_elim (λ never. inl never) (λ h. inr (h.0, h.1, stays t.to h.0 (omega (arith, long, state_below sound t.to is)) (omega (arith, long, target_below (across t.sym) t.args h.0 h.1)) h.2)) led

  step_stays : {old new : List ℕ} (t : Trans) → IsStep B t old new → (r s : ℕ) → r < length old → s < length old → image old r ≡ image old s → image new r ≡ image new s
  step_stays {old = old} t step r s l k e =
      ⊎_elim (λ h. subst (λ n. image n r ≡ image n s) (sym h.1) e)
      (λ h. subst (λ n. image n r ≡ image n s) (sym h.2) (together_stays old t.to h.0 r s l k e)) step

  pub step_led : {old new : List ℕ} (t : Trans) → Contains B.states t.to → B.next ≤ length old → IsStep B t old new → IsLed B new t
  step_led {old = old} {new = new} t is long step =
      ⊎_elim (λ h. inl h.0)
      (λ h. inr (
        h.0,
        h.1,
        subst (λ n. image n t.to ≡ image n h.0) (sym h.2)
            (together_now old t.to h.0 (omega (arith, long, state_below sound t.to is)) (omega (arith, long, target_below (across t.sym) t.args h.0 h.1))),
      )) step

-- what the lookup has found
pub found_least : {B : TreeAutomaton} (t : Trans) (f : ℕ) (ps : List ℕ) (found : Option ℕ) (q : ℕ) → f ≡ across t.sym → ps ≡ t.args → IfSome found (IsLeastTarget B f ps) → found ≡ Some q →
    IsLeastTarget B (across t.sym) t.args q
found_least {B = B} t f ps found q f-is ps-is some is =
    subst (λ g. IsLeastTarget B g t.args q) f-is (subst (λ qs. IsLeastTarget B f qs q) ps-is (subst (λ o. IfSome o (IsLeastTarget B f ps)) is some))

pub found_none : (B : TreeAutomaton) (t : Trans) (f : ℕ) (ps : List ℕ) (found : Option ℕ) → f ≡ across t.sym → ps ≡ t.args → IfNone found (HasNoTarget B f ps) → found ≡ None →
    HasNoTarget B (across t.sym) t.args
found_none B t f ps found f-is ps-is nowhere is =
    subst (λ g. HasNoTarget B g t.args) f-is (subst (λ qs. HasNoTarget B f qs) ps-is (subst (λ o. IfNone o (HasNoTarget B f ps)) is nowhere))

pub step_long : {B : TreeAutomaton} {old new : List ℕ} (t : Trans) → IsStep B t old new → length new ≡ length old
step_long {old = old} t step = ⊎_elim (λ h. ap length h.1) (λ h. ap length h.2 ∙ together_long old t.to h.0) step

pub step_joined : {B : TreeAutomaton} {ends : List Trans} {first old new : List ℕ} (t : Trans) → Contains ends t → IsStep B t old new → Joined (IsLeader B ends) first old → Joined (IsLeader B ends) first new
step_joined {B = B} {ends = ends} {first = first} t has step j =
    ⊎_elim (λ h. subst (Joined (IsLeader B ends) first) (sym h.1) j)
    (λ h. subst (Joined (IsLeader B ends) first) (sym h.2) (Joined.more j (record { end = t; has = has; to = refl; least = h.1 }))) step

-- ---- ends in turn

pub taken_or_next : {X : Type 0} (xs : List X) (i : ℕ) (d x : X) → i < length xs → Contains (take (i + 1) xs) x → Contains (take i xs) x ⊎ (get_or xs i d ≡ x)
taken_or_next xs i d x l c =
    ⊎_elim (λ before. inl before) (λ same. ⊎_elim (λ e. inr e) (λ n. absurd (none x n)) (parts (get_or xs i d) x [] same))
    (Contains-append_cases (take i xs) (get_or xs i d ∷ []) x (subst (λ ys. Contains ys x) (take_more xs i d l) c))

-- one more end is led
module _ {B : TreeAutomaton} (sound : IsSound B) (ends : List Trans) (inside : All (λ (t : Trans). Contains B.states t.to) ends) where
  pub to_state : (t : Trans) → Contains ends t → Contains B.states t.to
  to_state t c = All-contains (λ (t : Trans). Contains B.states t.to) ends t inside c

  pub more_led : (i : ℕ) (x : Trans) (old new : List ℕ) → i < length ends → x ≡ get_or ends i x → B.next ≤ length old → IsStep B x old new →
      ((t : Trans) → Contains (take i ends) t → IsLed B old t) → (t : Trans) → Contains (take (i + 1) ends) t → IsLed B new t
  more_led i x old new l is long step led t c =
      ⊎_elim
      (λ before. stays_led sound old new t (to_state t (subst (λ ts. Contains ts t) (take-append-drop i ends) (Contains-append_left (take i ends) (drop i ends) t before))) long
      (step_stays sound x step) (led t before))
      (λ same. subst (IsLed B new) (is ∙ same) (step_led sound x (to_state x (subst (Contains ends) (sym is) (Contains-get_or ends i x l))) long step))
      (taken_or_next ends i x t l c)

-- what leads the ends makes what is equated one
module _ {A B : TreeAutomaton} (e : RewriteEquation) (is : IsEquation e) (are : AreEnds A e B) (h : List ℕ) (led : (t : Trans) → Contains B.trans t → IsLed B h t) where
  has_left : {states : List ℕ} {p : ℕ} → EndsAt A e.left are.shared states p → Contains B.trans (trans_of 0 states p)
  has_left {states = states} {p = p} x = (are.exact (trans_of 0 states p)).1 (inl (refl, x))

  has_right : {states : List ℕ} {q : ℕ} → EndsAt A e.right are.shared states q → Contains B.trans (trans_of 1 states q)
  has_right {states = states} {q = q} x = (are.exact (trans_of 1 states q)).1 (inr (refl, x))

  one_least : (f : ℕ) (ps : List ℕ) (q r : ℕ) → IsLeastTarget B f ps q → IsLeastTarget B f ps r → q ≡ r
  one_least f ps q r a b = omega (arith, a.least r b.has, b.least q a.has)

  led_on : (f : ℕ) (ps : List ℕ) (p q : ℕ) → Contains B.trans (trans_of f ps p) → Contains B.trans (trans_of (across f) ps q) →
      (r : ℕ) × IsLeastTarget B (across f) ps r × (image h p ≡ image h r)
  led_on f ps p q c d = ⊎_elim (λ never. absurd (never q d)) (λ k. k) (led (trans_of f ps p) c)

  pub sides_are_one : (p q : ℕ) → Equates A e p q → image h p ≡ image h q
  sides_are_one p q x =
      let ps = map x.σ are.shared in
      let l : Contains B.trans (trans_of 0 ps p) = has_left (left_end e is are.are_shared x) in
      let r : Contains B.trans (trans_of 1 ps q) = has_right (right_end e is are.are_shared x) in
      let a = led_on 0 ps p q l r in
      let b = led_on 1 ps q p r l in
      let c = led_on 0 ps b.0 q b.1.has r in
      a.2 ∙ (ap (image h) (one_least 1 ps a.0 c.0 a.1 c.1) ∙ (sym c.2 ∙ sym b.2))

  pub all_are_one : (p q : ℕ) → AreEquated A e p q → image h p ≡ image h q
  all_are_one p q x = ⊎_elim (λ y. sides_are_one p q y) (λ y. sym (sides_are_one q p y)) x

-- and nothing else is put together
pub leaders_are_equated : {A B : TreeAutomaton} (e : RewriteEquation) → IsEquation e → AreEnds A e B → (ends : List Trans) → ends ≡ B.trans → (p q : ℕ) → IsLeader B ends p q → AreEquated A e p q
leaders_are_equated {A = A} {B = B} e is are ends all p q x =
    let t = x.end in
    let here = (are.exact t).0 (subst (λ ts. Contains ts t) all x.has) in
    let there = (are.exact (trans_of (across t.sym) t.args q)).0 x.least.has in
    subst (λ p. AreEquated A e p q) x.to
    (⊎_elim
    (λ l. ⊎_elim (λ bad. absurd (omega (arith, ap across l.0, bad.0))) (λ r. inl (equated e is are.are_shared l.1 r.1)) there)
    (λ r. ⊎_elim (λ l. inr (equated e is are.are_shared l.1 r.1)) (λ bad. absurd (omega (arith, ap across r.0, bad.0))) there)
    here)

-- ---- one equation after the other

module _ {A : TreeAutomaton} (sound : IsSound A) where
  equates_first : (e : RewriteEquation) (p q : ℕ) → Equates A e p q → Contains A.states p
  equates_first e p q x = plain_ends sound x.left

  equates_second : (e : RewriteEquation) (p q : ℕ) → Equates A e p q → Contains A.states q
  equates_second e p q x = plain_ends sound x.right

  pub first_below : (e : RewriteEquation) (p q : ℕ) → AreEquated A e p q → p < A.next
  first_below e p q x = state_below sound p (⊎_elim (λ y. equates_first e p q y) (λ y. equates_second e q p y) x)

  pub second_below : (e : RewriteEquation) (p q : ℕ) → AreEquated A e p q → q < A.next
  second_below e p q x = state_below sound q (⊎_elim (λ y. equates_second e p q y) (λ y. equates_first e q p y) x)

  pub one_more_equation : (E : List RewriteEquation) (i : ℕ) (x : RewriteEquation) (old new : List ℕ) → i < length E → x ≡ get_or E i x → A.next ≤ length old → Joined (AreEquated A x) old new →
      ((p q : ℕ) → AreEquated A x p q → image new p ≡ image new q) → ((p q : ℕ) → AreEquatedBy A (take i E) p q → image old p ≡ image old q) →
      (p q : ℕ) → AreEquatedBy A (take (i + 1) E) p q → image new p ≡ image new q
  one_more_equation E i x old new l is long joined here before p q h =
      ⊎_elim
      (λ c. joined_stays joined p q (omega (arith, long, first_below h.0 p q h.2)) (omega (arith, long, second_below h.0 p q h.2)) (before p q (h.0, c, h.2)))
      (λ same. here p q (subst (λ e. AreEquated A e p q) (sym (is ∙ same)) h.2))
      (taken_or_next E i x h.0 l h.1)

pub by_one : {A : TreeAutomaton} (E : List RewriteEquation) (i : ℕ) (x : RewriteEquation) → i < length E → x ≡ get_or E i x → (p q : ℕ) → AreEquated A x p q → AreEquatedBy A E p q
by_one E i x l is p q h = (x, subst (Contains E) (sym is) (Contains-get_or E i x l), h)

-- ---- on the way

module _ {A : TreeAutomaton} (sound : IsSound A) (order : IsInOrder A) {E : List RewriteEquation} where
  pair_on : (t : List ℕ) (p q : ℕ) → IsOnTheWay E A t → AreEquatedBy A E p q → IsOnTheWay E A (put_together t p q)
  pair_on t p q way x =
      ⊎_elim (λ e. subst (IsOnTheWay E A) (sym (together_same t p q e)) way)
      (λ d.
      let forced : Forces A E p q = record { differ = λ e. d (ap (image t) e); equation = x.0; is_equation = x.1; equates = x.2 } in
      subst (IsOnTheWay E A) (sym (together_joins A.next t p q (λ r l. least_below sound way.leasts r (omega (arith, l, way.leasts.each)))))
      (joins sound order t (image t p) (image t q) way (stays_forced way.leasts E p q forced d)))
      (same_or_not (image t p) (image t q))

  pub pairs_on : {t u : List ℕ} → Joined (AreEquatedBy A E) t u → IsOnTheWay E A t → IsOnTheWay E A u
  pairs_on Joined.none way = way
  pairs_on (Joined.more {u = u} {p = p} {q = q} j x) way = pair_on u p q (pairs_on j way) x

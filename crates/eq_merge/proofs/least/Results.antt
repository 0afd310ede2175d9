-- Merging has a result, and the least merge is that.
use Rattle.std.proofs.Common.{◌≡◌, ◌≢◌, ℕ, zero, suc, ◌≤◌, ◌<◌, ◌==◌, Bool, true, false, true≢false, cond, List, [], ◌∷◌, map, length, All, Contains, sym, ap, subst, ◌∙◌, ⊎_elim, arith, min, max}
use Rattle.std.specs.List.{filter}
use Rattle.std.proofs.lemmas.List.Elements.{All-contains, All-filter, Contains-append_cases}
use Rattle.list_laws.proofs.Members.{here, there, none, parts, map_had}
use Rattle.trs_rules.specs.Rules.{RewriteEquation, IsEquation}
use Rattle.ta_core.specs.TreeAutomaton.{TreeAutomaton}
use Rattle.ta_core.specs.Laws.{PlainRunsAreDecided}
use Rattle.ta_core.specs.Acceptance.{image}
use Rattle.eq_merge.specs.Quotients.{quotient, joining, apart, followed}
use Rattle.eq_merge.specs.Merging.{ForcedAmong, AreForcedPairs, pairs_of, Merged}
use Rattle.eq_merge.specs.MergingLaws.{HasMerged, LeastMergeIsMerged}
use Rattle.eq_merge.proofs.quotients.Joining.{into_hi, not_test, ordered, lesser_greater}
use Rattle.eq_merge.proofs.least.LeastMerges.{first_is_forced, is_least, least_merge_is_one}
use Rattle.eq_merge.proofs.least.Deciding.{forced_listed}

fewer : {X : Type 0} (p : X → Bool) (xs : List X) → length (filter p xs) ≤ length xs
fewer p [] = omega arith
fewer p (x ∷ xs) = by (p x) (fewer p xs)
  where
    by : (b : Bool) → length (filter p xs) ≤ length xs → length (cond b (x ∷ filter p xs) (filter p xs)) ≤ suc (length xs)
    by true h = omega (arith, h)
    by false h = omega (arith, h)

pub one_fewer : {X : Type 0} (p : X → Bool) (xs : List X) (x : X) → Contains xs x → p x ≡ false → length (filter p xs) < length xs
one_fewer p [] x c e = absurd (none x c)
one_fewer p (y ∷ xs) x c e =
    ⊎_elim (λ same. at_first (p y) (ap p same ∙ e)) (λ later. by (p y) (one_fewer p xs x later e)) (parts y x xs c)
  where
    at_first : (b : Bool) → b ≡ false → length (cond b (y ∷ filter p xs) (filter p xs)) < suc (length xs)
    at_first true h = absurd (true≢false h)
    at_first false h = omega (arith, fewer p xs)

    by : (b : Bool) → length (filter p xs) < length xs → length (cond b (y ∷ filter p xs) (filter p xs)) < suc (length xs)
    by true h = omega (arith, h)
    by false h = omega (arith, h)

-- ---- listed pairs

-- the first forced pair is one of the pairs, and the states of a pair are members
first_is_listed : {A : TreeAutomaton} {E : List RewriteEquation} {pairs others : List (ℕ × ℕ)} {p q : ℕ} → ForcedAmong A E pairs ((p, q) ∷ others) → Contains pairs (p, q)
first_is_listed (ForcedAmong.forced_one {p = p} {q = q} {pairs = pairs} f a) = here (p, q) pairs
first_is_listed {p = p} {q = q} (ForcedAmong.free_one {p = r} {q = s} {pairs = pairs} never a) = there (r, s) (p, q) pairs (first_is_listed a)

pairs_had : (xs : List ℕ) (e : ℕ × ℕ) → Contains (pairs_of xs) e → Contains xs e.0 × Contains xs e.1
pairs_had [] e c = absurd (none e c)
pairs_had (x ∷ xs) e c =
    ⊎_elim
    (λ first. let m = map_had (λ q. (x, q)) xs e first in
    (subst (λ (y : ℕ × ℕ). Contains (x ∷ xs) y.0) m.2 (here x xs), subst (λ (y : ℕ × ℕ). Contains (x ∷ xs) y.1) m.2 (there x m.0 xs m.1)))
    (λ later. let h = pairs_had xs e later in (there x e.0 xs h.0, there x e.1 xs h.1))
    (Contains-append_cases (map (λ q. (x, q)) xs) (pairs_of xs) e c)

abbrev Below : TreeAutomaton → Type 0
Below A = All (λ q. q < A.next) A.states

-- joining two states leaves fewer
joined_fewer : (A : TreeAutomaton) (p q : ℕ) → Below A → Contains A.states p → Contains A.states q → p ≢ q → length (quotient A (joining A.next p q)).states < length A.states
joined_fewer A p q below is_p is_q differ =
    let hi = max p q in
    let is : Contains A.states hi = ⊎_elim (λ e. subst (Contains A.states) (sym e.1) is_q) (λ e. subst (Contains A.states) (sym e.1) is_p) (lesser_greater p q) in
    let goes : image (joining A.next p q) hi ≡ min p q = into_hi A.next (min p q) hi (All-contains (λ q. q < A.next) A.states hi below is) in
    one_fewer (λ r. image (joining A.next p q) r == r) A.states hi is
    (not_test (image (joining A.next p q) hi) hi (λ e. omega (arith, e, goes, ordered p q differ)))

from_list : (E : List RewriteEquation) (A : TreeAutomaton) (below : Below A) (n : ℕ) → length A.states ≤ n → (xs : List (ℕ × ℕ)) → AreForcedPairs A E xs →
    ((X : TreeAutomaton) → Below X → length X.states < n → HasMerged E X) → HasMerged E A
from_list E A below n few [] are next = record { automaton = A; classes = apart A.next; merged = Merged.done are }
from_list E A below n few ((p, q) ∷ others) are next =
    let x = first_is_forced are in
    let both = pairs_had A.states (p, q) (first_is_listed are) in
    let f = joining A.next p q in
    let r = next (quotient A f) (All-filter (λ q. image f q == q) (λ q. q < A.next) A.states below) (omega (arith, few, joined_fewer A p q below both.0 both.1 x.differ)) in
    record { automaton = r.automaton; classes = followed f r.classes; merged = Merged.join are r.merged }

pub merge_result : PlainRunsAreDecided → (n : ℕ) (E : List RewriteEquation) → All IsEquation E → (A : TreeAutomaton) → Below A → length A.states ≤ n → HasMerged E A
merge_result decided zero E are A below few =
    let l = forced_listed decided A E are (pairs_of A.states) in
    from_list E A below zero few l.0 l.1 (λ X s less. absurd (omega (arith, less)))
merge_result decided (suc n) E are A below few =
    let l = forced_listed decided A E are (pairs_of A.states) in
    from_list E A below (suc n) few l.0 l.1 (λ X s less. merge_result decided n E are X s (omega (arith, less)))

pub least_merge_is_merged : PlainRunsAreDecided → LeastMergeIsMerged
least_merge_is_merged decided E A B h are sound order m =
    let r = merge_result decided (length A.states) E are A sound.below (omega arith) in
    let k = is_least r.merged sound order in
    let e = least_merge_is_one E A r.automaton B r.classes h sound k m in
    subst (λ g. Merged E A B g) e (subst (λ X. Merged E A X r.classes) (k.is_quotient ∙ (ap (quotient A) e ∙ sym m.is_quotient)) r.merged)

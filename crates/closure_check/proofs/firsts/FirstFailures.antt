-- The first part of an automaton that another one doesn't contain.
use Rattle.std.proofs.Common.{◌≡◌, ◌↔◌, ◌+◌, ◌<◌, ◌≤◌, ℕ, List, [], ◌∷◌, ◌++◌, map, length, get_or, take, drop, slice_index, set, zero, suc, All, Contains, sym, ap, subst, ◌∙◌, arith}
use Rattle.std.proofs.lemmas.List.{take-append-drop, drop_more, length-take-le, take_more, take_more_set, map-append}
use Rattle.ranked_terms.specs.declared.term.Config.{State}
use Rattle.ta_core.specs.TreeAutomaton.{TreeAutomaton, IsSound}
use Rattle.ta_core.specs.Runs.{Runs}
use Rattle.ta_core.specs.Acceptance.{IsContained, TransHolds, EpsHolds, FinalHolds}
use Rattle.ta_core.specs.lemmas.RunStates.{AreExact, exact_more}
use Rattle.closure_check.specs.Marking.{Marked}
use Rattle.closure_check.specs.Answers.{FailsFirst, FailsFirstAt}
use Rattle.closure_check.proofs.sets.RunningSets.{lists, sizes}

module _ {X : Type 0} (P : X → Type 0) (xs : List X) (k : ℕ) (x : X) (l : k < length xs) (is : x ≡ get_or xs k x) (holds : All P (take k xs)) (fails : P x → ⊥) where
  abbrev pub fails_first : FailsFirst P xs x
  fails_first = record {
    before = take k xs;
    after = drop (k + 1) xs;
    splits = sym (take-append-drop k xs) ∙ ap (λ rest. take k xs ++ rest) (drop_more xs k x l ∙ ap (λ y. y ∷ drop (k + 1) xs) (sym is));
    is = fails;
    earlier = holds;
  }

  pub fails_at : (place : ℕ) → place ≡ k → FailsFirstAt P xs place
  fails_at place at = (x, fails_first, omega (arith, at, length-take-le k xs (omega (arith, l))))

pub all_contained : (A₀ A : TreeAutomaton) (h : List ℕ) → IsSound A₀ → A₀.next ≤ length h → All (Contains A.states) h → All (TransHolds A h) A₀.trans → All (EpsHolds A h) A₀.eps → All (FinalHolds A h) A₀.finals → IsContained A₀ A h
all_contained A₀ A h sound long states trans eps finals = record {
  each_state = long;
  states = λ k d l. states (get_or A₀.states k d) 0 (omega (arith, sound.below k d l, long));
  trans = trans;
  eps = eps;
  finals = finals;
}

-- one argument more
pub exact_set : (A : TreeAutomaton) (h args : List ℕ) (k : ℕ) (xs : List Marked) (y : Marked) → k < length xs → k < length args → AreExact A (map (λ (p : ℕ). State (slice_index h p)) (take k args)) (lists (take k xs)) →
    ((q : ℕ) → Contains y.members q ↔ Runs A (State (slice_index h (get_or args k 0))) q) → AreExact A (map (λ (p : ℕ). State (slice_index h p)) (take (k + 1) args)) (lists (take (k + 1) (set xs k y)))
exact_set A h args k xs y l l' so_far one =
    let at = λ (p : ℕ). State (slice_index h p) in
    let made = exact_more A (map at (take k args)) (lists (take k xs)) (at (get_or args k 0)) y.members so_far one in
    subst (λ cs. AreExact A cs (lists (take (k + 1) (set xs k y)))) (sym (ap (map at) (take_more args k 0 l') ∙ map-append at (take k args) (get_or args k 0 ∷ [])))
    (subst (AreExact A (map at (take k args) ++ at (get_or args k 0) ∷ [])) (sym (ap lists (take_more_set xs k y l) ∙ map-append (λ (set : Marked). set.members) (take k xs) (y ∷ []))) made)

pub sizes_set : (xs : List Marked) (k : ℕ) (y d : Marked) → k < length xs → y.size ≡ (get_or xs k d).size → sizes (set xs k y) ≡ sizes xs
sizes_set [] k y d l e = absurd (omega (arith, l))
sizes_set (x ∷ xs) zero y d l e = ap (λ (n : ℕ). n ∷ sizes xs) e
sizes_set (x ∷ xs) (suc k) y d l e = ap (λ (ns : List ℕ). x.size ∷ ns) (sizes_set xs k y d (omega (arith, l)) e)

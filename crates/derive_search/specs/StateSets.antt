-- The states to which the terms of a store run, beside the store. These serve private contracts alone.
use Rattle.std.specs.Prelude.{◌≡◌, ◌↔◌, ℕ, ◌≤◌, List, [], map, length, slice_index_or, Some, Contains}
use Rattle.std.specs.List.{slice_get}
use Rattle.ranked_terms.specs.Terms.{config_of}
use Rattle.ranked_terms.specs.declared.term.Term.{Term}
use Rattle.ta_core.specs.TreeAutomaton.{TreeAutomaton}
use Rattle.ta_core.specs.Runs.{Runs}
use Rattle.term_store.specs.Store.{term_at}

-- each set has exactly the states to which the term at its place runs; the last terms may have none yet
pub record AreStateSets (A : TreeAutomaton) (terms : List Term) (sets : List (List ℕ)) : Type 0 where
  pub few : length sets ≤ length terms
  pub exact : (i : ℕ) (set : List ℕ) → slice_get sets i ≡ Some set → (q : ℕ) → Contains set q ↔ Runs A (config_of (term_at terms i)) q

-- the sets at these places
abbrev pub sets_at : List (List ℕ) → List ℕ → List (List ℕ)
sets_at sets places = map (λ a. slice_index_or sets a []) places

-- The bounded search: terms at the end of short chains from low terms of the initial language. This project's own.
use Rattle.std.specs.Prelude.{◌≡◌, ◌⊎◌, ℕ, ◌+◌, ◌-◌, ◌<◌, ◌≤◌, List, length, Some}
use Rattle.std.specs.List.{slice_get}
use Rattle.ranked_terms.specs.Terms.{height_of}
use Rattle.ranked_terms.specs.declared.term.Term.{Term}
use Rattle.trs_rules.specs.Steps.{Chain}
use Rattle.trs_rules.specs.declared.derivation.Derivation.{Derivation}
use Rattle.ta_core.specs.Languages.{Language}
use Rattle.ta_core.specs.Reachability.{Forbidden}
use Rattle.ta_core.specs.declared.spec.Spec.{Spec}
use Rattle.ta_core.specs.declared.options.Options.{Options}
use Rattle.list_laws.specs.Listings.{HasMoreThan}
use Rattle.ta_core.specs.Reachability.{Replays}
use Rattle.derive_search.specs.Starts.{AreTooMany, HasLarge}
use Rattle.derive_search.specs.declared.bounded.SearchEnd.{SearchEnd}
use Rattle.derive_search.specs.declared.bounded.SearchEnd.TheVariants.{Found, Exhausted, Over}

-- a term of the initial language of at most the height
pub record IsStart (spec : Spec) (height : ℕ) (t : Term) : Type 0 where
  pub language : Language spec.signature spec.initial t
  pub low : height_of t ≤ height

-- the last term of a chain of at most so many steps whose first term is a start
pub record Reached (spec : Spec) (height steps : ℕ) (t : Term) : Type 0 where
  pub start : Term
  pub starts : IsStart spec height start
  pub terms : List Term
  pub chain : Chain spec.rules terms
  pub begins : slice_get terms 0 ≡ Some start
  pub ends : slice_get terms (length terms - 1) ≡ Some t
  pub short : length terms ≤ steps + 1

-- the limits are passed within so many steps
abbrev pub IsOver : Spec → Options → ℕ → Type 0
IsOver spec options steps = AreTooMany spec.initial options.height options.terms
    ⊎ (HasMoreThan options.terms (Reached spec options.height steps) ⊎ HasLarge (λ t. t) (Reached spec options.height steps))

-- a forbidden term is reached
pub record ReachesForbidden (spec : Spec) (options : Options) (steps : ℕ) : Type 0 where
  pub term : Term
  pub reached : Reached spec options.height steps term
  pub forbidden : Forbidden spec term

-- the search has not ended before this number of steps
abbrev pub GoesOnTo : Spec → Options → ℕ → Type 0
GoesOnTo spec options steps = (i : ℕ) → i < steps → (IsOver spec options i → ⊥) × (ReachesForbidden spec options i → ⊥)

-- what the search answers: the least number of steps, within the options, within which the limits are passed or a forbidden term is reached
pub data SearchAnswer (spec : Spec) (options : Options) : SearchEnd → Type 0 where
  exhausted : GoesOnTo spec options (options.steps + 1) → SearchAnswer spec options (Exhausted options.steps)
  over : (j : ℕ) → j ≤ options.steps → GoesOnTo spec options j → IsOver spec options j → SearchAnswer spec options (Over j)
  found : (d : Derivation) → length d.steps ≤ options.steps → GoesOnTo spec options (length d.steps) → (IsOver spec options (length d.steps) → ⊥)
      → height_of d.start ≤ options.height → Replays spec d → SearchAnswer spec options (Found d)

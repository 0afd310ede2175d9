-- Laws of the bounded search.
use Rattle.std.specs.Prelude.{◌≡◌, ◌↔◌, ◌⊎◌, ℕ, ◌+◌, ◌≤◌, length}
use Rattle.ranked_terms.specs.declared.term.Term.{Term}
use Rattle.trs_rules.specs.Steps.{Step}
use Rattle.trs_rules.specs.declared.derivation.Derivation.{Derivation}
use Rattle.ta_core.specs.Reachability.{Reachable}
use Rattle.ta_core.specs.declared.spec.Spec.{Spec}
use Rattle.ta_core.specs.declared.options.Options.{Options}
use Rattle.derive_search.specs.Search.{IsStart, Reached, IsOver, SearchAnswer}
use Rattle.derive_search.specs.declared.bounded.SearchEnd.{SearchEnd}
use Rattle.derive_search.specs.declared.bounded.SearchEnd.TheVariants.{Found, Exhausted, Over}

-- without a step the starts are reached
abbrev pub StartsAreReached : Type 0
StartsAreReached = (spec : Spec) (height : ℕ) (t : Term) → Reached spec height 0 t ↔ IsStart spec height t

-- a step from a term that is reached
pub record StepsFromReached (spec : Spec) (height steps : ℕ) (t : Term) : Type 0 where
  pub from : Term
  pub reached : Reached spec height steps from
  pub step : Step spec.rules from t

-- with one step more, what was reached, and what it steps to
abbrev pub ReachedByLevels : Type 0
ReachedByLevels = (spec : Spec) (height steps : ℕ) (t : Term) → Reached spec height (steps + 1) t ↔ (Reached spec height steps t ⊎ StepsFromReached spec height steps t)

-- whatever is reached is reachable
abbrev pub ReachedIsReachable : Type 0
ReachedIsReachable = (spec : Spec) (height steps : ℕ) (t : Term) → Reached spec height steps t → Reachable spec t

-- limits that are passed stay so with more steps
abbrev pub OverStays : Type 0
OverStays = (spec : Spec) (options : Options) (i j : ℕ) → i ≤ j → IsOver spec options i → IsOver spec options j

-- the same end, but for the derivation that is given
pub data IsSameEnd : SearchEnd → SearchEnd → Type 0 where
  found : (d e : Derivation) → length d.steps ≡ length e.steps → IsSameEnd (Found d) (Found e)
  exhausted : (steps : ℕ) → IsSameEnd (Exhausted steps) (Exhausted steps)
  over : (steps : ℕ) → IsSameEnd (Over steps) (Over steps)

-- a search has one answer, but for the choice of a derivation
abbrev pub AnswersAreOne : Type 0
AnswersAreOne = (spec : Spec) (options : Options) (end other : SearchEnd) → SearchAnswer spec options end → SearchAnswer spec options other → IsSameEnd end other

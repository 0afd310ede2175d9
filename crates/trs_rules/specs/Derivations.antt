-- Steps from a term, and derivations: a start, and steps with the rule, the position and the term of each (Baader and Nipkow, Term Rewriting and All That, sections 2.1 and 4.2).
use Rattle.std.specs.Prelude.{◌≡◌, ◌↔◌, ◌⊎◌, ℕ, ◌<◌, ◌+◌, List, ◌∷◌, map, length, Some, Contains}
use Rattle.std.specs.List.{slice_get}
use Rattle.std.specs.List.Sorted.{IsStrictlySortedBy}
use Rattle.std.specs.declared.cmp.Ordering.{Ordering}
use Rattle.std.specs.Ordering.{nat_cmp, ordering_then}
use Rattle.std.specs.Cmp.Lexicographic.{slice_cmp}
use Rattle.ranked_terms.specs.Terms.{instance_of}
use Rattle.ranked_terms.specs.declared.term.Term.{Term}
use Rattle.trs_rules.specs.Rules.{RewriteRule}
use Rattle.trs_rules.specs.Steps.{StepAt}
use Rattle.trs_rules.specs.declared.successor.Successor.{Successor}
use Rattle.trs_rules.specs.declared.derivation.DStep.{DStep}
use Rattle.trs_rules.specs.declared.derivation.Derivation.{Derivation}

-- ---- steps

-- by rule, and then by position as a list, where a prefix comes first
abbrev pub successor_order : Successor → Successor → Ordering
successor_order x y = ordering_then (nat_cmp x.rule y.rule) (slice_cmp nat_cmp x.at y.at)

-- the list has all steps from t, each once, by rule and then position
pub record AreSuccessors (R : List RewriteRule) (t : Term) (list : List Successor) : Type 0 where
  pub members : (s : Successor) → Contains list s ↔ StepAt R s.rule s.at t s.term
  pub sorted : IsStrictlySortedBy successor_order list

-- ---- for private contracts: a step at the root by a rule itself, which `RootStep` names by its number; the steps that are found
-- once so many rules, and so many positions for the next one, are tried

-- s is an instance of the rule's left side, and t is the same instance of its right side
pub record IsStepBy (rule : RewriteRule) (s t : Term) : Type 0 where
  pub θ : ℕ → Term
  pub from : s ≡ instance_of θ rule.left
  pub to : t ≡ instance_of θ rule.right

abbrev pub IsTried : ℕ → List (List ℕ) → Successor → Type 0
IsTried rules positions s = (s.rule < rules) ⊎ ((s.rule ≡ rules) × Contains positions s.at)

pub record AreStepsUpTo (R : List RewriteRule) (t : Term) (rules : ℕ) (positions : List (List ℕ)) (list : List Successor) : Type 0 where
  pub members : (s : Successor) → Contains list s ↔ (IsTried rules positions s × StepAt R s.rule s.at t s.term)
  pub sorted : IsStrictlySortedBy successor_order list

-- ---- derivations

-- the start and the term of each step
abbrev pub terms_along : Derivation → List Term
terms_along d = d.start ∷ map (λ s. s.term) d.steps

-- the step at this place, counted from 0, leads by its rule at its position from the term before it to its own term
pub record IsStepOf (R : List RewriteRule) (d : Derivation) (place : ℕ) : Type 0 where
  pub step : DStep
  pub is_step : slice_get d.steps place ≡ Some step
  pub before : Term
  pub is_before : slice_get (terms_along d) place ≡ Some before
  pub steps : StepAt R step.rule step.at before step.term

-- each step does
abbrev pub IsDerivation : List RewriteRule → Derivation → Type 0
IsDerivation R d = (place : ℕ) → place < length d.steps → IsStepOf R d place

-- this step, counted from 1, is the first that does not
pub record IsFirstBad (R : List RewriteRule) (d : Derivation) (number : ℕ) : Type 0 where
  pub place : ℕ
  pub counts : number ≡ place + 1
  pub within : place < length d.steps
  pub bad : IsStepOf R d place → ⊥
  pub earlier : (i : ℕ) → i < place → IsStepOf R d i

-- the derivation leads to this term: its start where it has no step
abbrev pub LeadsTo : Derivation → Term → Type 0
LeadsTo d t = slice_get (terms_along d) (length d.steps) ≡ Some t

-- Chains with their number of steps (Baader and Nipkow, Term Rewriting and All That, section 2.1), and what ties them to chains.
use Rattle.std.specs.Prelude.{◌≡◌, ◌↔◌, ℕ, suc, ◌+◌, ◌-◌, ◌≤◌, List, length, Some}
use Rattle.std.specs.List.{slice_get}
use Rattle.ranked_terms.specs.declared.term.Term.{Term}
use Rattle.trs_rules.specs.Rules.{RewriteRule}
use Rattle.trs_rules.specs.Steps.{Step, Chain, Leads}

-- a chain of exactly n steps leads from s to t
pub record LeadsIn (R : List RewriteRule) (n : ℕ) (s t : Term) : Type 0 where
  pub terms : List Term
  pub chain : Chain R terms
  pub begins : slice_get terms 0 ≡ Some s
  pub ends : slice_get terms (length terms - 1) ≡ Some t
  pub count : length terms ≡ n + 1

-- a chain of at most n steps does
pub record LeadsWithin (R : List RewriteRule) (n : ℕ) (s t : Term) : Type 0 where
  pub terms : List Term
  pub chain : Chain R terms
  pub begins : slice_get terms 0 ≡ Some s
  pub ends : slice_get terms (length terms - 1) ≡ Some t
  pub count : length terms ≤ n + 1

-- ---- laws

-- in no step from a term to itself alone
abbrev pub NoStepStays : Type 0
NoStepStays = (R : List RewriteRule) (s t : Term) → LeadsIn R 0 s t ↔ (s ≡ t)

-- in one step more by a first step, and then by the others
abbrev pub StepsComeFirst : Type 0
StepsComeFirst = (R : List RewriteRule) (n : ℕ) (s u : Term) → LeadsIn R (suc n) s u ↔ ((t : Term) × Step R s t × LeadsIn R n t u)

-- and by the others, and then by a last step
abbrev pub StepsComeLast : Type 0
StepsComeLast = (R : List RewriteRule) (n : ℕ) (s u : Term) → LeadsIn R (suc n) s u ↔ ((t : Term) × LeadsIn R n s t × Step R t u)

-- the numbers of two chains, one after the other, add up
abbrev pub CountsAddUp : Type 0
CountsAddUp = (R : List RewriteRule) (m n : ℕ) (s t u : Term) → LeadsIn R m s t → LeadsIn R n t u → LeadsIn R (m + n) s u

-- within n steps is in some number of steps up to n
abbrev pub WithinIsInSome : Type 0
WithinIsInSome = (R : List RewriteRule) (n : ℕ) (s t : Term) → LeadsWithin R n s t ↔ ((k : ℕ) × (k ≤ n) × LeadsIn R k s t)

-- and a chain that leads somewhere has some number of steps
abbrev pub LeadsIsInSome : Type 0
LeadsIsInSome = (R : List RewriteRule) (s t : Term) → Leads R s t ↔ ((n : ℕ) × LeadsIn R n s t)

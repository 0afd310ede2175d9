-- Rewriting of ground terms (Baader and Nipkow, Term Rewriting and All That, sections 3.1 and 4.2; TATA, section 1.2): a step by a rule at a position, a step anywhere, and chains of steps.
use Rattle.std.specs.Prelude.{◌≡◌, ℕ, ◌-◌, List, [], ◌∷◌, ◌++◌, length, Some}
use Rattle.std.specs.List.{slice_get}
use Rattle.ranked_terms.specs.Terms.{node, instance_of}
use Rattle.ranked_terms.specs.Positions.{InArgument}
use Rattle.ranked_terms.specs.declared.term.Term.{Term}
use Rattle.trs_rules.specs.Rules.{RewriteRule}

-- s is an instance of the left side of rule i, and t is the same instance of its right side
pub record RootStep (R : List RewriteRule) (i : ℕ) (s t : Term) : Type 0 where
  pub rule : RewriteRule
  pub is_rule : slice_get R i ≡ Some rule
  pub θ : ℕ → Term
  pub from : s ≡ instance_of θ rule.left
  pub to : t ≡ instance_of θ rule.right

-- a step by rule i at a position: the argument numbers on the way from the root
abbrev pub StepAt : List RewriteRule → ℕ → List ℕ → Term → Term → Type 0
StepAt R i [] = RootStep R i
StepAt R i (k ∷ position) = InArgument (StepAt R i position) k

-- a step by some rule somewhere: the least relation that has the steps at the root and is closed under contexts
pub data Step (R : List RewriteRule) : Term → Term → Type 0 where
  at_root : {s t : Term} → (i : ℕ) → RootStep R i s t → Step R s t
  inside : {u v : Term} → (sym : ℕ) (before after : List Term) → Step R u v → Step R (node sym (before ++ u ∷ after)) (node sym (before ++ v ∷ after))

-- the list is not empty, and each term of it steps to the next
pub data Chain (R : List RewriteRule) : List Term → Type 0 where
  one : (t : Term) → Chain R (t ∷ [])
  more : {s t : Term} {ts : List Term} → Step R s t → Chain R (t ∷ ts) → Chain R (s ∷ t ∷ ts)

-- a chain leads from s to t
pub record Leads (R : List RewriteRule) (s t : Term) : Type 0 where
  pub terms : List Term
  pub chain : Chain R terms
  pub begins : slice_get terms 0 ≡ Some s
  pub ends : slice_get terms (length terms - 1) ≡ Some t

-- Rewrite rules and equations: pairs of patterns, with their variables in order.
use Rattle.std.specs.Prelude.{◌≡◌, ◌≢◌, ℕ, ◌≤◌, List, ◌++◌, length}
use Rattle.std.specs.List.{AllPairs, Contains}
use Rattle.ranked_terms.specs.Limits.{max_variables}
use Rattle.ranked_terms.specs.Terms.{occurrences, firsts, variables_of}
use Rattle.ranked_terms.specs.declared.term.Pattern.{Pattern}
use Rattle.ranked_terms.specs.declared.term.Pattern.TheVariants.{Var}

-- `left -> right`, with the variables in the order of an assignment
pub record RewriteRule : Type 0 where
  pub left : Pattern
  pub right : Pattern
  pub vars : List ℕ

-- the pattern is a variable
abbrev pub IsVariable : Pattern → Type 0
IsVariable p = (v : ℕ) × (p ≡ Var v)

-- no variable stands twice in the pattern (TATA, Preliminaries)
abbrev pub IsLinear : Pattern → Type 0
IsLinear p = AllPairs (λ v w. v ≢ w) (occurrences p)

-- each variable of the right side stands in the left side
abbrev pub IsBound : Pattern → Pattern → Type 0
IsBound left right = (v : ℕ) → Contains (occurrences right) v → Contains (occurrences left) v

-- a left-linear rewrite rule (Feuillade, Genet and Viet Triem Tong, JAR 2004) of at most 16 variables
pub record IsRule (rule : RewriteRule) : Type 0 where
  pub left_is_no_variable : IsVariable rule.left → ⊥
  pub left_is_linear : IsLinear rule.left
  pub right_is_bound : IsBound rule.left rule.right
  pub vars_are : rule.vars ≡ variables_of rule.left
  pub vars_are_few : length rule.vars ≤ max_variables

-- `left = right`, with the variables of both sides in the order of an assignment
pub record RewriteEquation : Type 0 where
  pub left : Pattern
  pub right : Pattern
  pub vars : List ℕ

-- an equation (Genet and Rusu, JSC 2010) of at most 16 variables, those of the left side first
pub record IsEquation (equation : RewriteEquation) : Type 0 where
  pub vars_are : equation.vars ≡ firsts (occurrences equation.left ++ occurrences equation.right)
  pub vars_are_few : length equation.vars ≤ max_variables

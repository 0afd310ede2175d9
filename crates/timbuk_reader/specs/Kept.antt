-- What always holds of the rules, transitions and states that were read, mostly as tests.
use Rattle.std.specs.Prelude.{◌≡◌, ◌≤◌, ℕ, Bool, ◌&&◌, nat_lt, List, length, None}
use Rattle.std.specs.List.{list_all}
use Rattle.ranked_terms.specs.Limits.{max_variables}
use Rattle.ranked_terms.specs.Names.{Symbol}
use Rattle.ranked_terms.specs.Terms.{is_symbol, occurrences, variables_of}
use Rattle.trs_rules.specs.Rules.{RewriteRule, IsVariable, IsLinear}
use Rattle.trs_rules.specs.Variables.{first_free}
use Rattle.ta_core.specs.declared.trans.Trans.{Trans}

-- each transition's symbol is in the signature, with as many arguments as its arity says
abbrev pub trans_are_over : List Symbol → List Trans → Bool
trans_are_over signature trans = list_all (λ t. is_symbol signature t.sym (length t.args)) trans

-- each state is below the bound
abbrev pub states_are_below : ℕ → List ℕ → Bool
states_are_below bound states = list_all (λ q. nat_lt q bound) states

-- each state of the transitions is below the bound
abbrev pub trans_are_below : ℕ → List Trans → Bool
trans_are_below bound trans = list_all (λ t. states_are_below bound t.args && nat_lt t.to bound) trans

-- each state of the epsilon transitions is below the bound
abbrev pub eps_are_below : ℕ → List (ℕ × ℕ) → Bool
eps_are_below bound eps = list_all (λ e. nat_lt e.0 bound && nat_lt e.1 bound) eps

-- a rule, where a test finds no variable of the right side that isn't in the left side
pub record IsKeptRule (rule : RewriteRule) : Type 0 where
  pub left_is_no_variable : IsVariable rule.left → ⊥
  pub left_is_linear : IsLinear rule.left
  pub none_free : first_free (occurrences rule.left) (occurrences rule.right) ≡ None
  pub vars_are : rule.vars ≡ variables_of rule.left
  pub vars_are_few : length rule.vars ≤ max_variables

-- What always holds of a specification, as tests. This project's own format.
use Rattle.std.specs.Prelude.{ℕ, Bool, true, ◌&&◌, nat_lt, nat_le, List, [], ◌∷◌, ◌++◌, length}
use Rattle.std.specs.List.{list_all}
use Rattle.ranked_terms.specs.Limits.{max_variables}
use Rattle.ranked_terms.specs.Names.{Symbol}
use Rattle.ranked_terms.specs.Terms.{is_symbol, pattern_is_over, joined, firsts}
use Rattle.ranked_terms.specs.declared.term.Shape.{Shape}
use Rattle.ranked_terms.specs.declared.term.Shape.TheOpen.{Shape-F, Var, State, App}
use Rattle.ranked_terms.specs.declared.term.Shape.TheFolds.{fold-Shape}
use Rattle.trs_rules.specs.Rules.{RewriteRule, RewriteEquation}
use Rattle.trs_rules.specs.declared.entry.Entry.{Entry}
use Rattle.ta_core.specs.TreeAutomaton.{TreeAutomaton}

-- ---- shapes

-- each symbol is in the signature, with as many arguments as its arity says
abbrev pub shape_is_over_step : List Symbol → Shape-F Bool → Bool
shape_is_over_step signature (Var v) = true
shape_is_over_step signature (State q) = true
shape_is_over_step signature (App sym args) = is_symbol signature sym (length args) && list_all (λ b. b) args

abbrev pub shape_is_over : List Symbol → Shape → Bool
shape_is_over signature = fold-Shape Bool (shape_is_over_step signature)

-- each state is below the bound
abbrev pub shape_is_below_step : ℕ → Shape-F Bool → Bool
shape_is_below_step bound (Var v) = true
shape_is_below_step bound (State q) = nat_lt q bound
shape_is_below_step bound (App sym args) = list_all (λ b. b) args

abbrev pub shape_is_below : ℕ → Shape → Bool
shape_is_below bound = fold-Shape Bool (shape_is_below_step bound)

-- each variable, from left to right, as often as it stands there
abbrev pub shape_occurrences_step : Shape-F (List ℕ) → List ℕ
shape_occurrences_step (Var v) = v ∷ []
shape_occurrences_step (State q) = []
shape_occurrences_step (App sym args) = joined args

abbrev pub shape_occurrences : Shape → List ℕ
shape_occurrences = fold-Shape (List ℕ) shape_occurrences_step

-- ---- parts of a specification

abbrev pub rules_are_over : List Symbol → List RewriteRule → Bool
rules_are_over signature rules = list_all (λ r. pattern_is_over signature r.left && pattern_is_over signature r.right) rules

abbrev pub equations_are_over : List Symbol → List RewriteEquation → Bool
equations_are_over signature equations = list_all (λ e. pattern_is_over signature e.left && pattern_is_over signature e.right) equations

abbrev pub entries_are_over : List Symbol → List Entry → Bool
entries_are_over signature entries = list_all (λ e. shape_is_over signature e.whole && shape_is_over signature e.at && shape_is_over signature e.node) entries

abbrev pub entries_are_below : ℕ → List Entry → Bool
entries_are_below bound entries = list_all (λ e. shape_is_below bound e.whole && shape_is_below bound e.at && shape_is_below bound e.node && nat_lt e.target bound) entries

-- the variables of an entry, each once
abbrev pub entry_variables : Entry → List ℕ
entry_variables e = firsts (shape_occurrences e.whole ++ (shape_occurrences e.at ++ shape_occurrences e.node))

abbrev pub entries_are_small : List Entry → Bool
entries_are_small entries = list_all (λ e. nat_le (length (entry_variables e)) max_variables) entries

-- each transition's symbol is in the signature, with as many arguments as its arity says
abbrev pub automaton_is_over : List Symbol → TreeAutomaton → Bool
automaton_is_over signature A = list_all (λ t. is_symbol signature t.sym (length t.args)) A.trans

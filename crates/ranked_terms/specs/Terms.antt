-- Ground terms, patterns and configurations (TATA, Preliminaries): sizes, heights, instances, and which terms are over a signature.
use Rattle.std.specs.Prelude.{ℕ, ◌+◌, max, Bool, true, false, ◌==◌, ◌&&◌, List, [], ◌∷◌, ◌++◌, Option, Some, None, sum, length, fold, if◌then◌else◌}
use Rattle.std.specs.List.{list_all, list_any}
use Rattle.ranked_terms.specs.Names.{Symbol, arity_of}
use Rattle.ranked_terms.specs.declared.term.Term.{Term, roll-Term}
use Rattle.ranked_terms.specs.declared.term.Term.TheOpen.{Term-F}
use Rattle.ranked_terms.specs.declared.term.Term.TheFolds.{fold-Term}
use Rattle.ranked_terms.specs.declared.term.Pattern.{Pattern}
use Rattle.ranked_terms.specs.declared.term.Pattern.TheOpen as pattern
use Rattle.ranked_terms.specs.declared.term.Pattern.TheFolds.{fold-Pattern}
use Rattle.ranked_terms.specs.declared.term.Config.{Config, State, App}

-- ---- ground terms

-- the term `sym(args)`
abbrev pub node : ℕ → List Term → Term
node sym args = roll-Term (record { sym = sym; args = args })

-- the number of symbols of a term
abbrev pub size_step : Term-F ℕ → ℕ
size_step t = sum t.args + 1

abbrev pub size_of : Term → ℕ
size_of = fold-Term ℕ size_step

-- the height of a constant is 1, and that of another term one more than the greatest of an argument
abbrev pub greatest : List ℕ → ℕ
greatest [] = 0
greatest (n ∷ ns) = max n (greatest ns)

abbrev pub height_step : Term-F ℕ → ℕ
height_step t = greatest t.args + 1

abbrev pub height_of : Term → ℕ
height_of = fold-Term ℕ height_step

-- how deep the symbols with arguments are nested in a pattern
abbrev pub nesting_at : List ℕ → ℕ
nesting_at [] = 0
nesting_at (n ∷ ns) = greatest (n ∷ ns) + 1

abbrev pub nesting_step : pattern.Pattern-F ℕ → ℕ
nesting_step (pattern.Var v) = 0
nesting_step (pattern.App sym args) = nesting_at args

abbrev pub nesting_of : Pattern → ℕ
nesting_of = fold-Pattern ℕ nesting_step

-- ---- over a signature

-- the signature has the symbol with this arity
abbrev pub is_arity : ℕ → Option ℕ → Bool
is_arity count None = false
is_arity count (Some arity) = count == arity

abbrev pub is_symbol : List Symbol → ℕ → ℕ → Bool
is_symbol signature sym count = is_arity count (arity_of signature sym)

-- each symbol of the term is in the signature, with as many arguments as its arity says
abbrev pub is_over_step : List Symbol → Term-F Bool → Bool
is_over_step signature t = is_symbol signature t.sym (length t.args) && list_all (λ b. b) t.args

abbrev pub is_over : List Symbol → Term → Bool
is_over signature = fold-Term Bool (is_over_step signature)

-- the same of a pattern
abbrev pub pattern_is_over_step : List Symbol → pattern.Pattern-F Bool → Bool
pattern_is_over_step signature (pattern.Var v) = true
pattern_is_over_step signature (pattern.App sym args) = is_symbol signature sym (length args) && list_all (λ b. b) args

abbrev pub pattern_is_over : List Symbol → Pattern → Bool
pattern_is_over signature = fold-Pattern Bool (pattern_is_over_step signature)

-- ---- instances

-- the pattern with each variable replaced by its ground term
abbrev pub instance_step : (ℕ → Term) → pattern.Pattern-F Term → Term
instance_step θ (pattern.Var v) = θ v
instance_step θ (pattern.App sym args) = node sym args

abbrev pub instance_of : (ℕ → Term) → Pattern → Term
instance_of θ = fold-Pattern Term (instance_step θ)

-- the pattern with each variable replaced by its state
abbrev pub assigned_step : (ℕ → ℕ) → pattern.Pattern-F Config → Config
assigned_step σ (pattern.Var v) = State (σ v)
assigned_step σ (pattern.App sym args) = App sym args

abbrev pub assigned : (ℕ → ℕ) → Pattern → Config
assigned σ = fold-Pattern Config (assigned_step σ)

-- a ground term as a configuration without states
abbrev pub config_step : Term-F Config → Config
config_step t = App t.sym t.args

abbrev pub config_of : Term → Config
config_of = fold-Term Config config_step

-- ---- variables

-- each variable of a pattern, from left to right, as often as it stands there
abbrev pub joined : List (List ℕ) → List ℕ
joined [] = []
joined (vs ∷ rest) = vs ++ joined rest

abbrev pub occurrences_step : pattern.Pattern-F (List ℕ) → List ℕ
occurrences_step (pattern.Var v) = v ∷ []
occurrences_step (pattern.App sym args) = joined args

abbrev pub occurrences : Pattern → List ℕ
occurrences = fold-Pattern (List ℕ) occurrences_step

-- the list with a variable at its end, unless it has it
abbrev pub with_variable : List ℕ → ℕ → List ℕ
with_variable vs v = if list_any (λ w. v == w) vs then vs else (vs ++ v ∷ [])

-- the variables in order of first occurrence
abbrev pub firsts : List ℕ → List ℕ
firsts vs = fold with_variable [] vs

abbrev pub variables_of : Pattern → List ℕ
variables_of p = firsts (occurrences p)

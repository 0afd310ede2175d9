-- Which names may be declared, and what the names of patterns, transitions and entries stand for (this project's own format).
use Rattle.std.specs.Prelude.{◌≡◌, ℕ, zero, suc, ◌+◌, ◌≤◌, max, ◌==◌, if◌then◌else◌, List, [], ◌∷◌, ◌++◌, Option, Some, None, map, length, position, All, Contains}
use Rattle.std.specs.List.{IsDistinct, position_or_len}
use Rattle.std.specs.Str.{bytes_eq}
use Rattle.std.specs.Option.{option_and_then}
use Rattle.ranked_terms.specs.Names.{Symbol, names_of, number_of, arity_of}
use Rattle.ranked_terms.specs.declared.term.Pattern.{Pattern}
use Rattle.ranked_terms.specs.declared.term.Pattern.TheOpen as pattern
use Rattle.ranked_terms.specs.declared.term.Pattern.TheFolds.{fold-Pattern}
use Rattle.ranked_terms.specs.declared.term.Shape.{Shape}
use Rattle.ranked_terms.specs.declared.term.Shape.TheVariants as shape
use Rattle.ta_core.specs.TreeAutomaton.{trans_of}
use Rattle.ta_core.specs.declared.trans.Trans.{Trans}
use Rattle.timbuk_grammar.specs.declared.terminal.Role.{Role}
use Rattle.timbuk_grammar.specs.Trees.{Tree, Trees, leaf, node, none, comma}
use Rattle.spec_text.specs.declared.fault.LimitName.TheVariants as limit
use Rattle.spec_text.specs.Limits.{most}
use Rattle.spec_text.specs.Declarations.{Text, Meaning, unknown, a_variable, a_state, a_symbol, or_else, as_symbol, as_variable, as_state, value_of}
use Rattle.spec_text.specs.Source.{SymbolDeclaration, Arrow, text_of}

-- ---- declared names

abbrev pub IsShort : Text → Type 0
IsShort text = length text ≤ most limit.NameBytes

-- the digits of a number that is an arity
pub record IsArity (digits : Text) : Type 0 where
  pub short : IsShort digits
  pub small : value_of digits ≤ most limit.Arity

-- the symbols are numbered in their order
abbrev pub signature_of : List SymbolDeclaration → List Symbol
signature_of declarations = map (λ d. (d.name, value_of d.arity)) declarations

-- each name once
pub record AreSymbols (declarations : List SymbolDeclaration) : Type 0 where
  pub names : All (λ d. IsShort d.name) declarations
  pub arities : All (λ d. IsArity d.arity) declarations
  pub distinct : IsDistinct bytes_eq (names_of (signature_of declarations))
  pub few : length declarations ≤ most limit.Symbols

-- at most so many names, each once, beside those that are taken
pub record AreNewNames (taken : List Text) (at_most : ℕ) (new : List Text) : Type 0 where
  pub short : All IsShort new
  pub distinct : IsDistinct bytes_eq (taken ++ new)
  pub few : length new ≤ at_most

-- ---- names that are used

-- the names that may stand somewhere: symbols, variables and states
pub record Names : Type 0 where
  pub symbols : List Symbol
  pub variables : List Text
  pub states : List Text

-- what a name stands for
abbrev pub stands_for : Names → Text → Meaning
stands_for names text =
    or_else (as_symbol names.symbols (number_of names.symbols text))
    (or_else (as_variable (position (bytes_eq text) names.variables))
    (as_state (position (bytes_eq text) names.states)))

-- a name without arguments: a variable, a state, or a symbol of arity 0
abbrev pub leaf_shape : Meaning → Option Shape
leaf_shape unknown = None
leaf_shape (a_variable v) = Some (shape.Var v)
leaf_shape (a_state q) = Some (shape.State q)
leaf_shape (a_symbol f zero) = Some (shape.App f [])
leaf_shape (a_symbol f (suc n)) = None

-- a symbol with as many arguments as its arity says
abbrev pub node_shape : Meaning → List Shape → Option Shape
node_shape (a_symbol f arity) args = if arity == length args then Some (shape.App f args) else None
node_shape _ args = None

abbrev pub one_and_more : Option Shape → Option (List Shape) → Option (List Shape)
one_and_more None more = None
one_and_more (Some s) None = None
one_and_more (Some s) (Some more) = Some (s ∷ more)

abbrev mutual
  -- the pattern that a tree of names stands for, if it stands for one
  pub shape_in : {p : Role} → Names → Tree p → Option Shape
  shape_in names (leaf name) = leaf_shape (stands_for names (text_of name))
  shape_in names (node name opening first more closing) = option_and_then (node_shape (stands_for names (text_of name))) (one_and_more (shape_in names first) (shapes_in names more))

  pub shapes_in : {p : Role} → Names → Trees p → Option (List Shape)
  shapes_in names none = Some []
  shapes_in names (comma mark next more) = one_and_more (shape_in names next) (shapes_in names more)

abbrev mutual
  -- how deep names with arguments are nested
  pub nesting_in : {p : Role} → Tree p → ℕ
  nesting_in (leaf name) = 0
  nesting_in (node name opening first more closing) = max (nesting_in first) (nesting_among more) + 1

  pub nesting_among : {p : Role} → Trees p → ℕ
  nesting_among none = 0
  nesting_among (comma mark next more) = max (nesting_in next) (nesting_among more)

-- a pattern as a shape without states
abbrev pub shape_step : pattern.Pattern-F Shape → Shape
shape_step (pattern.Var v) = shape.Var v
shape_step (pattern.App f args) = shape.App f args

abbrev pub shape_of : Pattern → Shape
shape_of = fold-Pattern Shape shape_step

-- names without arguments, one after the other
abbrev pub leaves : Names → List Text → Option (List Shape)
leaves names [] = Some []
leaves names (text ∷ more) = one_and_more (leaf_shape (stands_for names text)) (leaves names more)

-- ---- transitions

-- a name's place among names
abbrev pub place_in : List Text → Text → ℕ
place_in names text = position_or_len (bytes_eq text) names

-- `f(q1,..,qn) -> q`, or an epsilon transition `p -> q`
pub data IsTransition (symbols : List Symbol) (states : List Text) (d : Arrow) : Type 0 where
  by_symbol : {f : ℕ} → number_of symbols d.head ≡ Some f → arity_of symbols f ≡ Some (length d.args) → All (Contains states) d.args → Contains states d.target → IsTransition symbols states d
  by_state : Contains states d.head → d.args ≡ [] → Contains states d.target → IsTransition symbols states d

abbrev pub with_trans : Option ℕ → List Text → Arrow → List Trans → List Trans
with_trans None states d more = more
with_trans (Some f) states d more = trans_of f (map (place_in states) d.args) (place_in states d.target) ∷ more

-- the transitions by symbols
abbrev pub transitions_in : List Symbol → List Text → List Arrow → List Trans
transitions_in symbols states [] = []
transitions_in symbols states (d ∷ ds) = with_trans (number_of symbols d.head) states d (transitions_in symbols states ds)

abbrev pub with_move : Option ℕ → ℕ → ℕ → List (ℕ × ℕ) → List (ℕ × ℕ)
with_move (Some f) p q more = more
with_move None p q more = if p == q then more else ((p, q) ∷ more)

-- the epsilon transitions that lead to another state
abbrev pub moves_in : List Symbol → List Text → List Arrow → List (ℕ × ℕ)
moves_in symbols states [] = []
moves_in symbols states (d ∷ ds) = with_move (number_of symbols d.head) (place_in states d.head) (place_in states d.target) (moves_in symbols states ds)

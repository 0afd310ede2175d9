-- The table of faults: a row each, judged by what the grammar allows and by the declarations before (this project's own format).
use Rattle.std.specs.Prelude.{ℕ, ◌+◌, Bool, true, false, not, ◌&&◌, ◌||◌, ◌==◌, if◌then◌else◌, nat_lt, nat_le, List, [], ◌∷◌, ◌++◌, Option, Some, None, length, is_none, option_map}
use Rattle.std.specs.List.{list_any}
use Rattle.std.specs.Str.{bytes_eq}
use Rattle.ranked_terms.specs.Names.{names_of}
use Rattle.ranked_terms.specs.declared.term.Shape.{Shape}
use Rattle.timbuk_lex.specs.declared.lexeme.Lexeme.{Lexeme}
use Rattle.timbuk_lex.specs.declared.piece.LexFault.{LexFault}
use Rattle.timbuk_lex.specs.declared.piece.LexFault.TheVariants as lexical
use Rattle.timbuk_grammar.specs.declared.terminal.Role.TheVariants as role
use Rattle.timbuk_grammar.specs.declared.terminal.Terminal.{Terminal}
use Rattle.timbuk_grammar.specs.declared.terminal.Terminal.TheVariants as terminal
use Rattle.timbuk_grammar.specs.Vocabulary.{is_closed}
use Rattle.timbuk_grammar.specs.Matching.{is_word, matches}
use Rattle.spec_text.specs.declared.fault.SpecKind.{SpecKind}
use Rattle.spec_text.specs.declared.fault.SpecKind.TheVariants as kind
use Rattle.spec_text.specs.declared.fault.SpecFault.{SpecFault}
use Rattle.spec_text.specs.declared.fault.LimitName.{LimitName}
use Rattle.spec_text.specs.declared.fault.LimitName.TheVariants as limit
use Rattle.spec_text.specs.Limits.{most}
use Rattle.spec_text.specs.Declarations.{Text, Declared, Application, Last, leaf, constant, function, Meaning, unknown, a_variable, a_symbol, meaning, current, has, value_of}

-- the first of two
abbrev pub or : {A : Type 0} → Option A → Option A → Option A
or None b = b
or (Some a) b = Some a

-- this, where the condition holds
abbrev pub when : {A : Type 0} → Bool → A → Option A
when condition a = if condition then Some a else None

-- ---- another number of arguments

-- a `(` after a symbol of arity 0, and anything else after a symbol of another arity
abbrev pub wrong_after : Last → Lexeme → Bool
wrong_after constant x = matches terminal.OpenParen x
wrong_after function x = not (matches terminal.OpenParen x)
wrong_after _ x = false

-- a `)` after too few arguments, and a `,` after as many as the arity
abbrev pub wrong_count : List Application → Lexeme → Bool
wrong_count [] x = false
wrong_count (a ∷ outer) x = (matches terminal.CloseParen x && nat_lt (length a.args) a.arity) || (matches terminal.Comma x && nat_le a.arity (length a.args))

unfoldable pub wrong_arity : Declared → Lexeme → Bool
wrong_arity d x = wrong_after d.last x || wrong_count d.applications x

-- ---- a token that may not stand there

-- a `(` after a variable or a state, and an approximation before the first automaton
abbrev pub unexpected_after : Last → Lexeme → Bool
unexpected_after leaf x = matches terminal.OpenParen x
unexpected_after _ x = false

unfoldable pub expected : Option Terminal → Declared → Lexeme → Bool
expected at d x = is_none at || unexpected_after d.last x || (matches terminal.Approximation x && d.automata == 0)

-- ---- limits

-- a word that is too long for a name or an arity
abbrev pub long_name : Terminal → Text → Option LimitName
long_name (terminal.Named p) text = when (nat_lt (most limit.NameBytes) (length text)) limit.NameBytes
long_name terminal.Number text = when (nat_lt (most limit.NameBytes) (length text)) limit.NameBytes
long_name _ text = None

-- a symbol of an arity above 0 that would lie too deep
abbrev pub too_deep : Meaning → Declared → Option LimitName
too_deep (a_symbol f arity) d = when (nat_lt 0 arity && nat_le (most limit.Nesting) (length d.applications)) limit.Nesting
too_deep _ d = None

-- a variable that would be one too many of its declaration
abbrev pub one_too_many : Meaning → Declared → Option LimitName
one_too_many (a_variable v) d = when (not (has d.bound v || has d.own v) && nat_le (most limit.Variables) (length d.bound + length d.own)) limit.Variables
one_too_many _ d = None

abbrev pub none_open : List Application → Bool
none_open [] = true
none_open (a ∷ outer) = false

abbrev pub none_whole : List Shape → Bool
none_whole [] = true
none_whole (s ∷ ss) = false

-- the first name of a declaration
abbrev pub is_first : Declared → Bool
is_first d = none_open d.applications && none_whole d.shapes

-- the first name of a declaration where there are that many already
abbrev pub too_many : Bool → ℕ → LimitName → Option LimitName
too_many first count name = when (first && nat_le (most name) count) name

abbrev pub over : Terminal → Text → Declared → Option LimitName
over (terminal.Named role.Symbol) text d = when (nat_le (most limit.Symbols) (length d.symbols)) limit.Symbols
over (terminal.Named role.Variable) text d = when (nat_le (most limit.Declared) (length d.variables)) limit.Declared
over terminal.Number text d = when (nat_lt (most limit.Arity) (value_of text)) limit.Arity
over (terminal.Named role.LeftSide) text d = too_many (is_first d) (length d.rules) limit.Rules
over (terminal.Named role.EquationLeft) text d = too_many (is_first d) (length d.equations) limit.Equations
over (terminal.Named role.EntryHead) text d = too_many true (length d.entries) limit.Entries
over (terminal.Named role.State) text d = when (nat_le (most limit.States) (length (current d).states)) limit.States
over (terminal.Named role.ApproximationState) text d = when (nat_le (most limit.States) (length d.initial.states)) limit.States
over terminal.Automaton text d = when (nat_le (most limit.Automata) d.automata) limit.Automata
over terminal.Trs text d = when (nat_le (most limit.Systems) d.systems) limit.Systems
over terminal.Equations text d = when (nat_le (most limit.EquationSections) d.equation_sections) limit.EquationSections
over terminal.Approximation text d = when (nat_le (most limit.Approximations) d.approximations) limit.Approximations
over _ text d = None

-- what a name means at a terminal; no other token means anything
abbrev pub meant : Terminal → Text → Declared → Meaning
meant (terminal.Named p) text d = meaning d p text
meant _ text d = unknown

unfoldable pub passed : Terminal → Text → Declared → Option LimitName
passed at text d = or (long_name at text) (or (too_deep (meant at text d) d) (or (one_too_many (meant at text d) d) (over at text d)))

-- ---- names

-- a place in which a name is used, and not declared
abbrev pub is_use : Terminal → Bool
is_use (terminal.Named role.Symbol) = false
is_use (terminal.Named role.Variable) = false
is_use (terminal.Named role.Title) = false
is_use (terminal.Named role.State) = false
is_use (terminal.Named role.ApproximationState) = false
is_use (terminal.Named p) = true
is_use _ = false

abbrev pub is_unknown : Meaning → Bool
is_unknown unknown = true
is_unknown _ = false

-- the name is one of these
abbrev pub is_in : List Text → Text → Bool
is_in names text = list_any (λ name. bytes_eq text name) names

-- the name was declared before; the second automaton may have names of states of the initial one
abbrev pub is_double : Terminal → Text → Declared → Bool
is_double (terminal.Named role.Symbol) text d = is_in (names_of d.symbols) text
is_double (terminal.Named role.Variable) text d = is_in (names_of d.symbols ++ d.variables) text
is_double (terminal.Named role.State) text d = is_in (names_of d.symbols ++ (d.variables ++ (current d).states)) text
is_double (terminal.Named role.ApproximationState) text d = is_in (names_of d.symbols ++ (d.variables ++ d.initial.states)) text
is_double _ text d = false

-- ---- variables

abbrev pub variable_left : Terminal → Meaning → Declared → Bool
variable_left (terminal.Named role.LeftSide) (a_variable v) d = is_first d
variable_left _ m d = false

abbrev pub stands_twice : Terminal → Meaning → Declared → Bool
stands_twice (terminal.Named role.LeftSide) (a_variable v) d = has d.bound v
stands_twice _ m d = false

abbrev pub is_free : Terminal → Meaning → Declared → Bool
is_free (terminal.Named role.RightSide) (a_variable v) d = not (has d.bound v)
is_free _ m d = false

unfoldable pub misnamed : Terminal → Text → Declared → Option SpecKind
misnamed at text d =
    or (when (is_use at && is_unknown (meant at text d)) kind.UnknownName)
    (or (when (is_double at text d) kind.DoubleName)
    (or (when (variable_left at (meant at text d) d) kind.VariableLeft)
    (or (when (stands_twice at (meant at text d) d) kind.NotLeftLinear)
    (when (is_free at (meant at text d) d) kind.FreeVariable))))

-- ---- the first row that fits

-- a closed word
abbrev pub is_closed_word : Lexeme → Bool
is_closed_word x = is_word x.kind && is_closed x.text

-- a row on the terminal at which the token stands
abbrev pub at_terminal : Option Terminal → Lexeme → Declared → Option SpecKind
at_terminal None x d = None
at_terminal (Some at) x d = or (option_map kind.Limit (passed at x.text d)) (misnamed at x.text d)

-- The first row that fits a token. The terminal is the one at which the grammar has the token, if it has it there.
unfoldable pub row : Option Terminal → Declared → Lexeme → Option SpecKind
row at d x =
    or (when (is_closed_word x) kind.UnknownSection)
    (or (when (wrong_arity d x) kind.WrongArity)
    (or (when (expected at d x) kind.Expected)
    (at_terminal at x d)))

-- The first row that fits the end of a text, where the grammar allows the end or doesn't. After a symbol of an arity above 0 the text isn't whole.
abbrev pub is_function : Last → Bool
is_function function = true
is_function _ = false

unfoldable pub end_row : Bool → Declared → Option SpecKind
end_row allowed d = if allowed && not (is_function d.last) then when (d.automata == 0) kind.NoInitial else Some kind.Expected

-- ---- faults

-- what is wrong, and where
abbrev pub fault : SpecKind → ℕ → ℕ → SpecFault
fault kind line column = record { kind = kind; line = line; column = column }

-- what is wrong at a byte that begins no token
abbrev pub lexical_kind : LexFault → SpecKind
lexical_kind lexical.BadByte = kind.BadByte
lexical_kind lexical.OpenComment = kind.OpenComment
lexical_kind lexical.OpenText = kind.OpenText

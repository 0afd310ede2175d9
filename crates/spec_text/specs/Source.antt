-- What a derivation of the grammar declares, by the names that are written (this project's own format).
use Rattle.std.specs.Prelude.{List, [], ◌∷◌, ◌++◌, Option, Some, None, map}
use Rattle.std.proofs.Common.{inl, inr}
use Rattle.timbuk_grammar.specs.declared.terminal.Role.{Role}
use Rattle.timbuk_grammar.specs.declared.terminal.Role.TheVariants as role
use Rattle.timbuk_grammar.specs.declared.terminal.Terminal.{Terminal}
use Rattle.timbuk_grammar.specs.declared.terminal.Terminal.TheVariants as terminal
use Rattle.timbuk_grammar.specs.Grammar as grammar
use Rattle.timbuk_grammar.specs.Trees.{Token, Tree, Value}
use Rattle.spec_text.specs.Declarations.{Text}

-- ---- declarations

-- `name : arity`
pub record SymbolDeclaration : Type 0 where
  pub name : Text
  pub arity : Text

-- `left -> right`
pub record RuleDeclaration : Type 0 where
  pub left : Tree role.LeftSide
  pub right : Tree role.RightSide

-- `left = right`
pub record EquationDeclaration : Type 0 where
  pub left : Tree role.EquationLeft
  pub right : Tree role.EquationRight

-- `head(args) -> target`: a transition, or an entry of an approximation rule
pub record Arrow : Type 0 where
  pub head : Text
  pub args : List Text
  pub target : Text

-- the states, those that are described, the final ones, and the transitions, those under `Prior` among them
pub record AutomatonDeclaration : Type 0 where
  pub title : Text
  pub states : List Text
  pub described : List Text
  pub finals : List Text
  pub transitions : List Arrow

-- `[whole -> at] -> [entries]`
pub record ApproximationRule : Type 0 where
  pub whole : Tree role.EntryWhole
  pub at : Text
  pub entries : List Arrow

-- a section after `Vars`, with its title
pub data Section : Type 0 where
  system : Text → List RuleDeclaration → Section
  automaton : AutomatonDeclaration → Section
  equations : Text → List EquationDeclaration → Section
  approximation : Text → List Text → List ApproximationRule → Section

-- what a text declares, in its order
pub record Source : Type 0 where
  pub symbols : List SymbolDeclaration
  pub variables : List Text
  pub sections : List Section

-- ---- from derivations

abbrev pub text_of : {t : Terminal} → Token t → Text
text_of token = token.lexeme.text

abbrev pub symbol_of : Value grammar.op → SymbolDeclaration
symbol_of (name, (colon, arity)) = record { name = text_of name; arity = text_of arity }

abbrev pub state_of : {p : Role} → Value (grammar.state p) → Text
state_of (name, zero) = text_of name

abbrev pub rule_of : Value grammar.rule → RuleDeclaration
rule_of (left, (arrow, right)) = record { left = left; right = right }

abbrev pub equation_of : Value grammar.equation → EquationDeclaration
equation_of (left, (equals, right)) = record { left = left; right = right }

-- the names in parentheses
abbrev pub arguments_of : {p : Role} → Value (grammar.arguments (grammar.name p)) → List Text
arguments_of None = []
arguments_of (Some (opening, (first, (more, closing)))) = text_of first ∷ map (λ m. text_of m.1) more

abbrev pub transition_of : Value grammar.transition → Arrow
transition_of (head, (args, (arrow, target))) = record { head = text_of head; args = arguments_of args; target = text_of target }

abbrev pub entry_of : Value grammar.entry → Arrow
entry_of (head, (args, (arrow, target))) = record { head = text_of head; args = arguments_of args; target = text_of target }

abbrev pub described_in : Option (Value grammar.description) → List Text
described_in None = []
described_in (Some (word, descriptions)) = map (λ d. text_of d.0) descriptions

abbrev pub finals_in : Value grammar.final_states → List Text
finals_in (final_word, (states_word, names)) = map text_of names

-- the transitions under `Prior`
abbrev pub prior_in : Option (Token terminal.Prior × List (Value grammar.transition)) → List Arrow
prior_in None = []
prior_in (Some (word, declarations)) = map transition_of declarations

abbrev pub transitions_in : Value grammar.transitions → List Arrow
transitions_in (prior, (word, declarations)) = prior_in prior ++ map transition_of declarations

abbrev pub automaton_of : Value grammar.automaton → AutomatonDeclaration
automaton_of (word, (title, (states_word, (states, (descriptions, (finals, transitions)))))) = record {
  title = text_of title;
  states = map state_of states;
  described = described_in descriptions;
  finals = finals_in finals;
  transitions = transitions_in transitions;
}

abbrev pub approximation_rule_of : Value grammar.approximation_rule → ApproximationRule
approximation_rule_of (opening, (whole, (arrow, (at, (closing, (second_arrow, (entries_opening, ((first, more), entries_closing)))))))) = record {
  whole = whole;
  at = text_of at;
  entries = entry_of first ∷ map entry_of more;
}

abbrev pub section_of : Value grammar.section → Section
section_of (inl (word, (title, rules))) = system (text_of title) (map rule_of rules)
section_of (inr (inl a)) = automaton (automaton_of a)
section_of (inr (inr (inl (word, (title, (rules_word, sides)))))) = equations (text_of title) (map equation_of sides)
section_of (inr (inr (inr (word, (title, (states_word, (states, (rules_word, rules)))))))) = approximation (text_of title) (map state_of states) (map approximation_rule_of rules)

abbrev pub symbols_in : Option (Value grammar.ops) → List SymbolDeclaration
symbols_in None = []
symbols_in (Some (word, declarations)) = map symbol_of declarations

abbrev pub variables_in : Option (Value grammar.vars) → List Text
variables_in None = []
variables_in (Some (word, names)) = map text_of names

abbrev pub source_of : Value grammar.file → Source
source_of (ops, (vars, sections)) = record { symbols = symbols_in ops; variables = variables_in vars; sections = map section_of sections }

-- What the reader's state declares, and what is read from there on.
use Rattle.std.specs.Prelude.{◌<◌, ℕ, Bool, true, false, List, [], ◌∷◌, length, map, Result, Ok, Err}
use Rattle.ranked_terms.specs.declared.term.Shape.{Shape}
use Rattle.trs_rules.specs.Rules.{RewriteRule, RewriteEquation}
use Rattle.timbuk_lex.specs.Places.{line_of, column_of}
use Rattle.timbuk_lex.specs.declared.lexeme.Lexeme.{Lexeme}
use Rattle.timbuk_lex.specs.declared.lex.Ending.{Ending}
use Rattle.timbuk_lex.specs.declared.lex.Ending.TheVariants.{Whole, Stopped}
use Rattle.timbuk_grammar.specs.Grammar.{Part}
use Rattle.spec_text.specs.declared.fault.SpecKind.{SpecKind}
use Rattle.spec_text.specs.declared.fault.SpecKind.TheVariants as kind
use Rattle.spec_text.specs.declared.fault.SpecFault.{SpecFault}
use Rattle.timbuk_reader.specs.declared.fault.SpecError.{SpecError}
use Rattle.timbuk_reader.specs.declared.fault.SpecError.TheVariants as error
use Rattle.timbuk_reader.specs.declared.state.StartedAutomaton.{StartedAutomaton}
use Rattle.timbuk_reader.specs.declared.state.Reader.{Reader}
use Rattle.spec_text.specs.Declarations.{Text, Started, Application, Head, no_head, Last, any, Declared}
use Rattle.spec_text.specs.Rows.{is_closed_word, fault, lexical_kind}
use Rattle.spec_text.specs.Reading.{Outcome, End, outcome, settled}
use Rattle.spec_text.specs.Naming.{shape_of}

-- ---- what is declared

-- an automaton, as far as it is declared
abbrev pub started : StartedAutomaton → Started
started a = record { states = a.states; finals = a.finals; trans = a.trans; eps = a.eps }

abbrev pub rule_shapes : RewriteRule → Shape × Shape
rule_shapes r = (shape_of r.left, shape_of r.right)

abbrev pub equation_shapes : RewriteEquation → Shape × Shape
equation_shapes e = (shape_of e.left, shape_of e.right)

-- what of a declaration is read while the reader's state has nothing of it
pub record Open : Type 0 where
  pub name : Text
  pub applications : List Application
  pub shapes : List Shape
  pub own : List ℕ
  pub head : Head
  pub head_args : List ℕ
  pub last : Last
  -- the reader's bound variables are those of this declaration
  pub binds : Bool

-- no declaration is open
abbrev pub closed : Open
closed = record { name = []; applications = []; shapes = []; own = []; head = no_head; head_args = []; last = any; binds = false }

-- the bound variables, which mean nothing where no declaration has any
abbrev pub bound_in : Bool → List ℕ → List ℕ
bound_in true bound = bound
bound_in false bound = []

-- a symbol of this name, whose arity comes
abbrev pub naming : Text → Open
naming name = record closed { name = name }

-- the declarations that were read, and what is open
abbrev pub declared : Open → Reader → Declared
declared o r = record {
  symbols = r.signature;
  name = o.name;
  variables = r.variables;
  systems = r.systems;
  automata = r.automata;
  equation_sections = r.equation_sections;
  approximations = r.approximations;
  initial = started r.initial;
  extra = r.extra;
  second = started r.second;
  rules = map rule_shapes r.rules;
  equations = map equation_shapes r.equations;
  entries = r.entries;
  applications = o.applications;
  shapes = o.shapes;
  bound = bound_in o.binds r.bound;
  own = o.own;
  head = o.head;
  head_args = o.head_args;
  last = o.last;
}

-- the same declarations, and this open one with these bound variables
abbrev pub inside : Open → List ℕ → Declared → Declared
inside o bound d = record d { name = o.name; applications = o.applications; shapes = o.shapes; bound = bound_in o.binds bound; own = o.own; head = o.head; head_args = o.head_args; last = o.last }

abbrev pub state_of : Reader → Declared
state_of r = declared closed r

-- the place of a text's end
unfoldable pub end_line : List ℕ → ℕ
end_line bytes = line_of bytes

unfoldable pub end_column : List ℕ → ℕ
end_column bytes = column_of bytes

abbrev pub end_of : Reader → End
end_of r = record { ending = r.ending; line = end_line r.bytes.now; column = end_column r.bytes.now }

-- what the text declares from here on, or its first fault, where these parts are open
abbrev pub from : Open → List Part → Reader → Outcome
from o ps r = settled (outcome (end_of r) ps (declared o r) r.tokens.now)

-- a fault as an error
abbrev pub as_error : Outcome → Result Declared SpecError
as_error (Ok d) = Ok d
as_error (Err f) = Err (error.Fault f)

-- fewer tokens are left
abbrev pub Shorter : Reader → Reader → Type 0
Shorter old new = length new.tokens.now < length old.tokens.now

-- ---- refusals

-- the fault at the next token, or at the end
abbrev pub end_fault : Ending → End → SpecFault
end_fault Whole end = fault kind.Expected end.line end.column
end_fault (Stopped why line column) end = fault (lexical_kind why) line column

abbrev pub told : Bool → SpecKind → SpecKind
told true k = kind.UnknownSection
told false k = k

-- A closed word is reported as one, and at the end there is the byte that begins no token, or a token is expected.
abbrev pub refusal_at : SpecKind → End → List Lexeme → SpecFault
refusal_at k end [] = end_fault end.ending end
refusal_at k end (x ∷ rest) = fault (told (is_closed_word x) k) x.line x.column

abbrev pub refusal : SpecKind → Reader → SpecFault
refusal k r = refusal_at k (end_of r) r.tokens.now

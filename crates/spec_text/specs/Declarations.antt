-- What the tokens before a place of an input text declare, and what is open there (this project's own format).
use Rattle.std.specs.Prelude.{ℕ, zero, suc, ◌+◌, ◌*◌, ◌-◌, Bool, true, false, ◌==◌, if◌then◌else◌, List, [], ◌∷◌, ◌++◌, Option, Some, None, fold, position, unwrap_or, is_some}
use Rattle.std.specs.Str.{bytes_eq}
use Rattle.ranked_terms.specs.Names.{Symbol, number_of, arity_of}
use Rattle.ranked_terms.specs.declared.term.Shape.{Shape}
use Rattle.ranked_terms.specs.declared.term.Shape.TheVariants as shape
use Rattle.trs_rules.specs.declared.entry.Entry.{Entry}
use Rattle.ta_core.specs.TreeAutomaton.{trans_of}
use Rattle.ta_core.specs.declared.trans.Trans.{Trans}
use Rattle.timbuk_lex.specs.declared.lexeme.Lexeme.{Lexeme}
use Rattle.timbuk_grammar.specs.Grammar.{Part}
use Rattle.timbuk_grammar.specs.Next.{Choice}
use Rattle.timbuk_grammar.specs.declared.terminal.Role.{Role}
use Rattle.timbuk_grammar.specs.declared.terminal.Role.TheVariants as role
use Rattle.timbuk_grammar.specs.declared.terminal.Terminal.{Terminal}
use Rattle.timbuk_grammar.specs.declared.terminal.Terminal.TheVariants as terminal

abbrev pub Text : Type 0
Text = List ℕ

-- ---- what is declared, and what is open

-- an automaton, as far as it is declared: the names of its states, and its final states, transitions and epsilon transitions in the order of the text
pub record Started : Type 0 where
  pub states : List Text
  pub finals : List ℕ
  pub trans : List Trans
  pub eps : List (ℕ × ℕ)

-- an application whose arguments are not closed yet
pub record Application : Type 0 where
  pub role : Role
  pub sym : ℕ
  pub arity : ℕ
  pub args : List Shape

-- what the last token was, where this decides on what may follow: a variable or a state, a symbol of arity 0, or a symbol of another arity
pub data Last : Type 0 where
  any : Last
  leaf : Last
  constant : Last
  function : Last

-- the head of a transition: a state, or a symbol
pub data Head : Type 0 where
  no_head : Head
  state_head : ℕ → Head
  symbol_head : ℕ → Head

-- The declarations so far. The approximation's states stand behind those of the initial automaton.
pub record Declared : Type 0 where
  pub symbols : List Symbol
  -- the name whose arity comes
  pub name : Text
  pub variables : List Text
  pub systems : ℕ
  pub automata : ℕ
  pub equation_sections : ℕ
  pub approximations : ℕ
  pub initial : Started
  pub extra : ℕ
  pub second : Started
  pub rules : List (Shape × Shape)
  pub equations : List (Shape × Shape)
  pub entries : List Entry
  -- the open applications, the innermost first
  pub applications : List Application
  -- what is whole of the rule, equation or approximation rule that is open
  pub shapes : List Shape
  -- its variables, each once, and those that an entry has in its arguments besides
  pub bound : List ℕ
  pub own : List ℕ
  -- the head of the transition that is open, and its arguments
  pub head : Head
  pub head_args : List ℕ
  pub last : Last

abbrev pub no_automaton : Started
no_automaton = record { states = []; finals = []; trans = []; eps = [] }

abbrev pub nothing : Declared
nothing = record {
  symbols = [];
  name = [];
  variables = [];
  systems = 0;
  automata = 0;
  equation_sections = 0;
  approximations = 0;
  initial = no_automaton;
  extra = 0;
  second = no_automaton;
  rules = [];
  equations = [];
  entries = [];
  applications = [];
  shapes = [];
  bound = [];
  own = [];
  head = no_head;
  head_args = [];
  last = any;
}

-- the automaton that is declared last
abbrev pub current : Declared → Started
current d = if d.automata == 2 then d.second else d.initial

abbrev pub with_current : Started → Declared → Declared
with_current a d = if d.automata == 2 then record d { second = a } else record d { initial = a }

-- ---- what a name means in its place

pub data Meaning : Type 0 where
  unknown : Meaning
  a_variable : ℕ → Meaning
  a_state : ℕ → Meaning
  a_symbol : ℕ → ℕ → Meaning

-- where a symbol may stand
abbrev pub allows_symbol : Role → Bool
allows_symbol role.LeftSide = true
allows_symbol role.RightSide = true
allows_symbol role.EquationLeft = true
allows_symbol role.EquationRight = true
allows_symbol role.TransitionHead = true
allows_symbol role.EntryWhole = true
allows_symbol role.EntryHead = true
allows_symbol _ = false

-- where a variable may stand
abbrev pub allows_variable : Role → Bool
allows_variable role.LeftSide = true
allows_variable role.RightSide = true
allows_variable role.EquationLeft = true
allows_variable role.EquationRight = true
allows_variable role.EntryWhole = true
allows_variable role.EntryAt = true
allows_variable role.EntryArgument = true
allows_variable _ = false

-- the states that may stand in a place: those of this automaton, or those of the initial automaton and of the approximation
abbrev pub states_at : Declared → Role → List Text
states_at d role.DescribedState = (current d).states
states_at d role.FinalState = (current d).states
states_at d role.TransitionHead = (current d).states
states_at d role.TransitionArgument = (current d).states
states_at d role.TransitionTarget = (current d).states
states_at d role.EntryWhole = d.initial.states
states_at d role.EntryAt = d.initial.states
states_at d role.EntryArgument = d.initial.states
states_at d role.EntryTarget = d.initial.states
states_at d _ = []

abbrev pub or_else : Meaning → Meaning → Meaning
or_else unknown m = m
or_else m _ = m

abbrev pub as_symbol : List Symbol → Option ℕ → Meaning
as_symbol symbols None = unknown
as_symbol symbols (Some f) = a_symbol f (unwrap_or (arity_of symbols f) 0)

abbrev pub as_variable : Option ℕ → Meaning
as_variable None = unknown
as_variable (Some v) = a_variable v

abbrev pub as_state : Option ℕ → Meaning
as_state None = unknown
as_state (Some q) = a_state q

abbrev pub if_allowed : Bool → Meaning → Meaning
if_allowed allowed m = if allowed then m else unknown

unfoldable pub meaning : Declared → Role → Text → Meaning
meaning d p name =
    or_else (if_allowed (allows_symbol p) (as_symbol d.symbols (number_of d.symbols name)))
    (or_else (if_allowed (allows_variable p) (as_variable (position (bytes_eq name) d.variables)))
    (as_state (position (bytes_eq name) (states_at d p))))

-- ---- what a token adds

-- the number that digits spell
abbrev pub value_of : Text → ℕ
value_of digits = fold (λ n d. n * 10 + (d - 48)) 0 digits

-- the variable is one of these
abbrev pub has : List ℕ → ℕ → Bool
has vs v = is_some (position (λ w. v == w) vs)

-- the list with a variable at its end, unless it has it
abbrev pub with_variable : List ℕ → ℕ → List ℕ
with_variable vs v = if has vs v then vs else (vs ++ v ∷ [])

-- a declaration ends
abbrev pub ends : Declared → Declared
ends d = record d { shapes = []; bound = []; own = [] }

abbrev pub add_rule : List Shape → Shape → Declared → Declared
add_rule (left ∷ []) right d = record d { rules = d.rules ++ (left, right) ∷ [] }
add_rule _ right d = d

abbrev pub add_equation : List Shape → Shape → Declared → Declared
add_equation (left ∷ []) right d = record d { equations = d.equations ++ (left, right) ∷ [] }
add_equation _ right d = d

-- a transition, or an epsilon transition where the head is a state
abbrev pub add_transition : Head → ℕ → Declared → Declared
add_transition no_head q d = d
add_transition (state_head p) q d = with_current (record (current d) { eps = (current d).eps ++ (p, q) ∷ [] }) d
add_transition (symbol_head f) q d = with_current (record (current d) { trans = (current d).trans ++ trans_of f d.head_args q ∷ [] }) d

-- an entry, whose approximation rule may have further ones
abbrev pub add_entry : List Shape → ℕ → Declared → Declared
add_entry (whole ∷ at ∷ node ∷ []) q d =
    record d { entries = d.entries ++ record { whole = whole; at = at; node = node; target = q } ∷ []; shapes = whole ∷ at ∷ []; own = [] }
add_entry _ q d = d

-- a state that is used
abbrev pub uses : Role → ℕ → Declared → Declared
uses role.FinalState q d = with_current (record (current d) { finals = (current d).finals ++ q ∷ [] }) d
uses role.TransitionHead q d = record d { head = state_head q }
uses role.TransitionArgument q d = record d { head_args = d.head_args ++ q ∷ [] }
uses role.TransitionTarget q d = record (add_transition d.head q d) { head = no_head; head_args = [] }
uses role.EntryTarget q d = add_entry d.shapes q d
uses _ q d = d

-- a part of a rule, an equation or an approximation rule that is whole
abbrev pub whole : Role → Shape → Declared → Declared
whole role.LeftSide s d = record d { shapes = s ∷ [] }
whole role.RightSide s d = ends (add_rule d.shapes s d)
whole role.EquationLeft s d = record d { shapes = s ∷ [] }
whole role.EquationRight s d = ends (add_equation d.shapes s d)
whole role.EntryWhole s d = record d { shapes = s ∷ [] }
whole role.EntryAt s d = record d { shapes = d.shapes ++ s ∷ [] }
whole role.EntryHead s d = record d { shapes = d.shapes ++ s ∷ [] }
whole _ s d = d

-- the same, or an argument of the innermost application
abbrev pub placed_in : List Application → Role → Shape → Declared → Declared
placed_in [] p s d = whole p s d
placed_in (a ∷ outer) p s d = record d { applications = record a { args = a.args ++ s ∷ [] } ∷ outer }

abbrev pub placed : Role → Shape → Declared → Declared
placed p s d = placed_in d.applications p s d

-- a variable of the declaration that is open
abbrev pub binds : Role → ℕ → Declared → Declared
binds role.EntryArgument v d = if has d.bound v then d else record d { own = with_variable d.own v }
binds _ v d = record d { bound = with_variable d.bound v }

-- a symbol at the head of a transition
abbrev pub begins_transition : Role → ℕ → Declared → Declared
begins_transition role.TransitionHead f d = record d { head = symbol_head f }
begins_transition _ f d = d

abbrev pub named : Role → Meaning → Declared → Declared
named p unknown d = record d { last = any }
named p (a_variable v) d = record (placed p (shape.Var v) (binds p v d)) { last = leaf }
named p (a_state q) d = record (uses p q (placed p (shape.State q) d)) { last = leaf }
named p (a_symbol f zero) d = record (placed p (shape.App f []) (begins_transition p f d)) { last = constant }
named p (a_symbol f (suc n)) d = record (begins_transition p f d) { applications = record { role = p; sym = f; arity = suc n; args = [] } ∷ d.applications; last = function }

-- the innermost application is closed
abbrev pub closes : List Application → Declared → Declared
closes [] d = record d { last = any }
closes (a ∷ outer) d = placed a.role (shape.App a.sym a.args) (record d { applications = outer; last = any })

-- what a token adds, by what the grammar has in its place
unfoldable pub adds : Terminal → Text → Declared → Declared
adds (terminal.Named role.Symbol) name d = record d { name = name; last = any }
adds terminal.Number name d = record d { symbols = d.symbols ++ (d.name, value_of name) ∷ []; name = []; last = any }
adds (terminal.Named role.Variable) name d = record d { variables = d.variables ++ name ∷ []; last = any }
adds (terminal.Named role.Title) name d = record d { last = any }
adds (terminal.Named role.State) name d = record (with_current (record (current d) { states = (current d).states ++ name ∷ [] }) d) { last = any }
adds (terminal.Named role.ApproximationState) name d = record d { initial = record d.initial { states = d.initial.states ++ name ∷ [] }; extra = d.extra + 1; last = any }
adds (terminal.Named p) name d = named p (meaning d p name) d
adds terminal.CloseParen name d = closes d.applications d
adds terminal.CloseEntries name d = record (ends d) { last = any }
adds terminal.Trs name d = record d { systems = d.systems + 1; last = any }
adds terminal.Automaton name d = record d { automata = d.automata + 1; last = any }
adds terminal.Equations name d = record d { equation_sections = d.equation_sections + 1; last = any }
adds terminal.Approximation name d = record d { approximations = d.approximations + 1; last = any }
adds _ name d = record d { last = any }

-- ---- a token where the grammar has it

-- the parts that are open after a token
abbrev pub behind : Option Choice → List Part
behind None = []
behind (Some c) = c.behind

-- what a token adds
abbrev pub added : Option Choice → Lexeme → Declared → Declared
added None x d = d
added (Some c) x d = adds c.terminal x.text d

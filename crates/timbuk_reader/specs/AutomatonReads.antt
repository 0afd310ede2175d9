-- What the functions that read automata do.
use Rattle.std.specs.Prelude.{◌≡◌, ◌≢◌, ◌<◌, ◌≤◌, ℕ, Bool, false, List, [], ◌∷◌, ◌++◌, length, map}
use Rattle.ranked_terms.specs.declared.term.Shape.TheVariants as shape
use Rattle.ta_core.specs.declared.trans.Trans.{Trans}
use Rattle.timbuk_lex.specs.declared.lexeme.Lexeme.{Lexeme}
use Rattle.timbuk_grammar.specs.declared.terminal.Role.{Role}
use Rattle.timbuk_grammar.specs.declared.terminal.Role.TheVariants as role
use Rattle.timbuk_grammar.specs.declared.terminal.Terminal.TheVariants as terminal
use Rattle.timbuk_grammar.specs.Grammar.{Part, one, ◌then◌, maybe, many, arguments, name, transition}
use Rattle.timbuk_reader.specs.declared.fault.SpecError.{SpecError}
use Rattle.timbuk_reader.specs.declared.state.Reader.{Reader}
use Rattle.spec_text.specs.Declarations.{Text, Application, Declared, Head, symbol_head, any, function, current, with_current, uses, placed}
use Rattle.spec_text.specs.Rows.{wrong_count}
use Rattle.spec_text.specs.Reading.{outcome}
use Rattle.timbuk_reader.specs.View.{Open, closed, declared, state_of, end_of, from}
use Rattle.spec_text.specs.Reading.{settled}
use Rattle.timbuk_reader.specs.Reads.{Advances, Stops}

-- ---- parts of an automaton's section

-- the arity of a state
abbrev pub no_arity : Part
no_arity = maybe (one terminal.Colon then one terminal.Zero)

-- a description of a state
abbrev pub described : Part
described = name role.DescribedState then one terminal.Colon then one terminal.Quoted

-- the transitions under `Prior`
abbrev pub prior : Part
prior = maybe (one terminal.Prior then many transition)

-- the arguments of a transition
abbrev pub head_arguments : Part
head_arguments = arguments (name role.TransitionArgument)

-- the arrow of a transition and the state to which it goes
abbrev pub target : Part
target = one terminal.Arrow then name role.TransitionTarget

-- ---- the automaton that is read

-- no approximation stands before it, unless it is the second automaton
pub record IsInAutomaton (r : Reader) : Type 0 where
  pub early : r.automata ≢ 2 → r.approximations ≡ 0

-- the names of its states
abbrev pub states_of : Reader → List Text
states_of r = (current (state_of r)).states

-- the same with a further state of the initial automaton
abbrev pub with_initial_state : Text → Declared → Declared
with_initial_state name d = record d { initial = record d.initial { states = d.initial.states ++ name ∷ [] } }

-- the same with a further transition
abbrev pub with_trans : Trans → Declared → Declared
with_trans t d = with_current (record (current d) { trans = (current d).trans ++ t ∷ [] }) d

-- the same with a further epsilon transition
abbrev pub with_epsilon : ℕ → ℕ → Declared → Declared
with_epsilon p q d = with_current (record (current d) { eps = (current d).eps ++ (p, q) ∷ [] }) d

-- no more tokens are left
abbrev pub NoLonger : Reader → Reader → Type 0
NoLonger old new = length new.tokens.now ≤ length old.tokens.now

-- the same tokens are left
pub record SameTokens (old new : Reader) : Type 0 where
  pub tokens : new.tokens.now ≡ old.tokens.now
  pub end : end_of new ≡ end_of old

-- ---- states that are declared

-- an approximation stands there of which no entry was read
pub record IsInApproximation (r : Reader) : Type 0 where
  pub some : r.approximations ≢ 0
  pub early : r.entries ≡ []

-- A state may be declared in this place: as the automaton's own, or as the approximation's before its entries.
abbrev pub MayDeclare : Role → Reader → Type 0
MayDeclare role.State r = IsInAutomaton r
MayDeclare role.ApproximationState r = IsInApproximation r
MayDeclare _ r = ⊥

-- the names of the states beside which it is declared
abbrev pub table_of : Role → Reader → List Text
table_of role.ApproximationState r = r.initial.states
table_of _ r = states_of r

-- ---- states that are used

-- the places in which a name can only be a state of the automaton
abbrev pub UsesState : Role → Type 0
UsesState role.DescribedState = Unit {0}
UsesState role.FinalState = Unit {0}
UsesState role.TransitionArgument = Unit {0}
UsesState role.TransitionTarget = Unit {0}
UsesState _ = ⊥

-- whether the next token shows another number of arguments
abbrev pub miscounts : List Application → List Lexeme → Bool
miscounts applications [] = false
miscounts applications (x ∷ rest) = wrong_count applications x

-- no token before decides on the next one
pub record IsReady (o : Open) (r : Reader) : Type 0 where
  pub last : o.last ≡ any
  pub count : miscounts o.applications r.tokens.now ≡ false

-- the state was read, whatever is open
pub record ReadState (p : Role) (old : Reader) (state : ℕ) (new : Reader) : Type 0 where
  pub by : (o : Open) → IsReady o old → (ps : List Part)
      → from o (name p ∷ ps) old ≡ settled (outcome (end_of new) ps (record (uses p state (placed p (shape.State state) (declared o new))) { last = any }) new.tokens.now)

-- no state stands there, whatever is open
pub record StopsState (p : Role) (old : Reader) (e : SpecError) : Type 0 where
  pub by : (o : Open) → IsReady o old → Stops (name p) o old e

-- ---- transitions

-- the head was read, with its arguments
abbrev pub headed : Head → List ℕ → Open
headed head args = record closed { head = head; head_args = args }

abbrev pub argument_of : ℕ → ℕ → List ℕ → Application
argument_of sym arity args = record { role = role.TransitionHead; sym = sym; arity = arity; args = map shape.State args }

-- these arguments of the symbol were read
abbrev pub arguing : ℕ → ℕ → List ℕ → Open
arguing sym arity args = record closed { applications = argument_of sym arity args ∷ []; head = symbol_head sym; head_args = args }

-- the symbol was read, whose arguments come
abbrev pub begun : ℕ → ℕ → Open
begun sym arity = record (arguing sym arity []) { last = function }

-- an argument was read, whichever the symbol is that lacks it
pub record ReadArgument (old : Reader) (state : ℕ) (new : Reader) : Type 0 where
  pub by : (sym arity : ℕ) (args : List ℕ) → length args < arity → Advances (name role.TransitionArgument) (arguing sym arity args) old (arguing sym arity (args ++ state ∷ [])) new

-- no argument stands there
pub record StopsArgument (old : Reader) (e : SpecError) : Type 0 where
  pub by : (sym arity : ℕ) (args : List ℕ) → length args < arity → Stops (name role.TransitionArgument) (arguing sym arity args) old e

-- the arguments were read, whichever the symbol of this arity is
pub record ReadArguments (arity : ℕ) (old : Reader) (args : List ℕ) (new : Reader) : Type 0 where
  pub by : (sym : ℕ) → Advances head_arguments (begun sym arity) old (headed (symbol_head sym) args) new

-- there are no such arguments
pub record StopsArguments (arity : ℕ) (old : Reader) (e : SpecError) : Type 0 where
  pub by : (sym : ℕ) → Stops head_arguments (begun sym arity) old e

-- so many of the arguments were read
pub record SomeArguments (arity : ℕ) (old : Reader) (args : List ℕ) (new : Reader) : Type 0 where
  pub by : (sym : ℕ) (ps : List Part)
      → from (begun sym arity) (head_arguments ∷ ps) old ≡ from (arguing sym arity args) ((many (one terminal.Comma then name role.TransitionArgument) then one terminal.CloseParen) ∷ ps) new

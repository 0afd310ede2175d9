-- The grammar of the input text (this project's own format).
use Rattle.timbuk_grammar.specs.declared.terminal.Role.{Role}
use Rattle.timbuk_grammar.specs.declared.terminal.Role.TheVariants as role
use Rattle.timbuk_grammar.specs.declared.terminal.Terminal.{Terminal}
use Rattle.timbuk_grammar.specs.declared.terminal.Terminal.TheVariants as terminal

infixr 80 ◌then◌
infixr 70 ◌or◌
-- A part: a token; a part and then another; one of two; a part at most once, or any number of times; a pattern, which may hold itself.
pub data Part : Type 0 where
  one : Terminal → Part
  ◌then◌ : Part → Part → Part
  ◌or◌ : Part → Part → Part
  maybe : Part → Part
  many : Part → Part
  pattern : Role → Part

-- a part at least once
abbrev pub some : Part → Part
some a = a then many a

-- a name in this place
abbrev pub name : Role → Part
name p = one (terminal.Named p)

-- arguments, at least one, or nothing: [ "(" a ( "," a )* ")" ]
abbrev pub arguments : Part → Part
arguments a = maybe (one terminal.OpenParen then a then many (one terminal.Comma then a) then one terminal.CloseParen)

-- what follows the name of a pattern: pattern = name [ "(" pattern ( "," pattern )* ")" ]
abbrev pub pattern_arguments : Role → Part
pattern_arguments p = arguments (pattern p)

-- op = name ":" number
abbrev pub op : Part
op = name role.Symbol then one terminal.Colon then one terminal.Number

-- state = name [ ":" "0" ]
abbrev pub state : Role → Part
state p = name p then maybe (one terminal.Colon then one terminal.Zero)

-- rule = pattern "->" pattern
abbrev pub rule : Part
rule = pattern role.LeftSide then one terminal.Arrow then pattern role.RightSide

-- equation = pattern "=" pattern
abbrev pub equation : Part
equation = pattern role.EquationLeft then one terminal.Equals then pattern role.EquationRight

-- transition = name [ "(" name ( "," name )* ")" ] "->" name
abbrev pub transition : Part
transition = name role.TransitionHead then arguments (name role.TransitionArgument) then one terminal.Arrow then name role.TransitionTarget

-- entry = name [ "(" name ( "," name )* ")" ] "->" name
abbrev pub entry : Part
entry = name role.EntryHead then arguments (name role.EntryArgument) then one terminal.Arrow then name role.EntryTarget

-- approximation_rule = "[" pattern "->" name "]" "->" "[" entry+ "]"
abbrev pub approximation_rule : Part
approximation_rule =
    one terminal.OpenBracket then pattern role.EntryWhole then one terminal.Arrow then name role.EntryAt then one terminal.CloseBracket
    then one terminal.Arrow then one terminal.OpenBracket then some entry then one terminal.CloseEntries

-- ops = "Ops" op*
abbrev pub ops : Part
ops = one terminal.Ops then many op

-- vars = "Vars" name*
abbrev pub vars : Part
vars = one terminal.Vars then many (name role.Variable)

-- system = "TRS" name rule*
abbrev pub system : Part
system = one terminal.Trs then name role.Title then many rule

-- description = "Description" ( name ":" text )*
abbrev pub description : Part
description = one terminal.Description then many (name role.DescribedState then one terminal.Colon then one terminal.Quoted)

-- final_states = "Final" "States" name*
abbrev pub final_states : Part
final_states = one terminal.Final then one terminal.States then many (name role.FinalState)

-- transitions = [ "Prior" transition* ] "Transitions" transition*
abbrev pub transitions : Part
transitions = maybe (one terminal.Prior then many transition) then one terminal.Transitions then many transition

-- automaton = "Automaton" name "States" state* [ description ] final_states transitions
abbrev pub automaton : Part
automaton =
    one terminal.Automaton then name role.Title then one terminal.States then many (state role.State)
    then maybe description then final_states then transitions

-- equations = "Equations" name "Rules" equation*
abbrev pub equations : Part
equations = one terminal.Equations then name role.Title then one terminal.Rules then many equation

-- approximation = "Approximation" name "States" state* "Rules" approximation_rule*
abbrev pub approximation : Part
approximation =
    one terminal.Approximation then name role.Title then one terminal.States then many (state role.ApproximationState)
    then one terminal.Rules then many approximation_rule

-- section = system | automaton | equations | approximation
abbrev pub section : Part
section = system or automaton or equations or approximation

-- file = [ ops ] [ vars ] section*
abbrev pub file : Part
file = maybe ops then maybe vars then many section

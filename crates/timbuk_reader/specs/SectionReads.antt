-- The sections after the variables, by the words that begin them.
use Rattle.std.specs.Prelude.{◌≡◌, false, List, [], ◌∷◌}
use Rattle.timbuk_lex.specs.declared.lexeme.Lexeme.{Lexeme}
use Rattle.timbuk_grammar.specs.declared.terminal.Terminal.{Terminal}
use Rattle.timbuk_grammar.specs.declared.terminal.Terminal.TheVariants as terminal
use Rattle.timbuk_grammar.specs.Grammar.{Part, system, automaton, equations, approximation, file}
use Rattle.timbuk_reader.specs.declared.sections.Section.{Section}
use Rattle.timbuk_reader.specs.declared.sections.Section.TheVariants.{System, Automaton, Equations, Approximation}
use Rattle.timbuk_reader.specs.declared.state.Reader.{Reader}
use Rattle.spec_text.specs.Reading.{Outcome}
use Rattle.timbuk_reader.specs.View.{closed, from}
use Rattle.spec_text.specs.Reading.{sees}

-- the word that begins a section
abbrev pub word_of : Section → Terminal
word_of System = terminal.Trs
word_of Automaton = terminal.Automaton
word_of Equations = terminal.Equations
word_of Approximation = terminal.Approximation

-- a section as a part of the grammar
abbrev pub part_of : Section → Part
part_of System = system
part_of Automaton = automaton
part_of Equations = equations
part_of Approximation = approximation

-- no word of a section stands next
pub record BeginsNone (xs : List Lexeme) : Type 0 where
  pub system : sees terminal.Trs xs ≡ false
  pub automaton : sees terminal.Automaton xs ≡ false
  pub equations : sees terminal.Equations xs ≡ false
  pub approximation : sees terminal.Approximation xs ≡ false

-- what a text declares whose tokens are left whole
abbrev pub from_start : Reader → Outcome
from_start r = from closed (file ∷ []) r

-- what a text declares behind its last section
abbrev pub at_end : Reader → Outcome
at_end r = from closed [] r

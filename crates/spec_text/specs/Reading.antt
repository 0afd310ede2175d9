-- What an input text declares, or its first fault, as it is read: the tokens one after the other, up to the first at which a row fits
-- (this project's own format). Nobody has to believe this: the laws say that what is read is what the text spells, and its first fault.
use Rattle.std.specs.Prelude.{ℕ, Bool, false, List, [], ◌∷◌, Option, Some, None, Result, Ok, Err, option_map}
use Rattle.std.specs.List.{list_all}
use Rattle.timbuk_lex.specs.Lexing.{lexed}
use Rattle.timbuk_lex.specs.Places.{line_of, column_of}
use Rattle.timbuk_lex.specs.declared.lexeme.Lexeme.{Lexeme}
use Rattle.timbuk_lex.specs.declared.lex.Ending.{Ending}
use Rattle.timbuk_lex.specs.declared.lex.Ending.TheVariants.{Whole, Stopped}
use Rattle.timbuk_grammar.specs.declared.terminal.Terminal.{Terminal}
use Rattle.timbuk_grammar.specs.Matching.{matches}
use Rattle.timbuk_grammar.specs.Grammar.{Part, file}
use Rattle.timbuk_grammar.specs.Next.{Choice, choice_of, empties}
use Rattle.spec_text.specs.declared.fault.SpecKind.{SpecKind}
use Rattle.spec_text.specs.declared.fault.SpecFault.{SpecFault}
use Rattle.spec_text.specs.Declarations.{Declared, nothing, any, behind, added}
use Rattle.spec_text.specs.Rows.{row, end_row, fault, lexical_kind}

abbrev pub Outcome : Type 0
Outcome = Result Declared SpecFault

-- how a text ends: what the lexer says, and the place after the last byte
pub record End : Type 0 where
  pub ending : Ending
  pub line : ℕ
  pub column : ℕ

-- ---- the end

abbrev pub end_by : Option SpecKind → End → Declared → Outcome
end_by None end d = Ok d
end_by (Some k) end d = Err (fault k end.line end.column)

-- behind the last token: the byte that begins none, or the end of the text
abbrev pub ends_by : Ending → End → List Part → Declared → Outcome
ends_by Whole end ps d = end_by (end_row (list_all empties ps) d) end d
ends_by (Stopped why line column) end ps d = Err (fault (lexical_kind why) line column)

-- ---- the tokens

abbrev pub terminal_of : Option Choice → Option Terminal
terminal_of choice = option_map (λ c. c.terminal) choice

abbrev pub unless : Option SpecKind → Lexeme → Outcome → Outcome
unless None x outcome = outcome
unless (Some k) x outcome = Err (fault k x.line x.column)

-- what these tokens declare besides, where these parts are open, or the first fault
abbrev pub outcome : End → List Part → Declared → List Lexeme → Outcome
outcome end ps d [] = ends_by end.ending end ps d
outcome end ps d (x ∷ rest) =
    let choice = choice_of ps x in
    unless (row (terminal_of choice) d x) x (outcome end (behind choice) (added choice x d) rest)

-- what a text declares, or its first fault
abbrev pub read : List ℕ → Outcome
read bytes = outcome (record { ending = (lexed bytes).ending; line = line_of bytes; column = column_of bytes }) (file ∷ []) nothing (lexed bytes).tokens

-- what a whole text declares, whatever its last token was
abbrev pub settled : Outcome → Outcome
settled (Ok d) = Ok (record d { last = any })
settled (Err f) = Err f

-- the next token is what the terminal stands for
abbrev pub sees : Terminal → List Lexeme → Bool
sees t [] = false
sees t (x ∷ rest) = matches t x

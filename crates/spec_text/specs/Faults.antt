-- The first fault of an input text: the first place at which a row of the table of faults fits (this project's own format).
use Rattle.std.specs.Prelude.{◌≡◌, ℕ, List, [], ◌∷◌, ◌++◌, Option, Some, None}
use Rattle.timbuk_lex.specs.Lexing.{lexed}
use Rattle.timbuk_lex.specs.Places.{line_of, column_of}
use Rattle.timbuk_lex.specs.declared.lexeme.Lexeme.{Lexeme}
use Rattle.timbuk_lex.specs.declared.lex.Ending.{Ending}
use Rattle.timbuk_lex.specs.declared.lex.Ending.TheVariants.{Whole, Stopped}
use Rattle.timbuk_grammar.specs.Grammar.{Part, file}
use Rattle.timbuk_grammar.specs.Next.{choice_of, terminal_at, end_allowed}
use Rattle.spec_text.specs.declared.fault.SpecKind.{SpecKind}
use Rattle.spec_text.specs.declared.fault.SpecFault.{SpecFault}
use Rattle.spec_text.specs.Declarations.{Declared, nothing}
use Rattle.spec_text.specs.Rows.{row, end_row}
use Rattle.spec_text.specs.Declarations.{added, behind}
use Rattle.spec_text.specs.Rows.{fault, lexical_kind}

-- what tokens declare besides, where these parts are open
abbrev pub declared_from : List Part → Declared → List Lexeme → Declared
declared_from ps d [] = d
declared_from ps d (x ∷ xs) = let choice = choice_of ps x in declared_from (behind choice) (added choice x d) xs

-- what the tokens before a place declare
abbrev pub declared_by : List Lexeme → Declared
declared_by before = declared_from (file ∷ []) nothing before

-- the first row that fits a token after these: judged by the terminal at which the grammar has it and by the declarations before
abbrev pub row_at : List Lexeme → Lexeme → Option SpecKind
row_at before x = row (terminal_at before x) (declared_by before) x

-- no row fits any of these tokens
abbrev pub NoRowIn : List Lexeme → Type 0
NoRowIn tokens = (before : List Lexeme) (x : Lexeme) (after : List Lexeme) → tokens ≡ before ++ x ∷ after → row_at before x ≡ None

-- the first row that fits what stands behind the last token: the byte that begins none, or the end
abbrev pub EndFault : List ℕ → Ending → SpecFault → Type 0
EndFault bytes Whole f = (kind : SpecKind) × (end_row (end_allowed (lexed bytes).tokens) (declared_by (lexed bytes).tokens) ≡ Some kind) × (f ≡ fault kind (line_of bytes) (column_of bytes))
EndFault bytes (Stopped why line column) f = f ≡ fault (lexical_kind why) line column

-- The fault stands at the first token, or the end, at which a row fits, and is the first row that fits there.
pub data SpecFaultAt (bytes : List ℕ) (f : SpecFault) : Type 0 where
  at_token : (before : List Lexeme) (x : Lexeme) (after : List Lexeme) (kind : SpecKind) → (lexed bytes).tokens ≡ before ++ x ∷ after → NoRowIn before → row_at before x ≡ Some kind → f ≡ fault kind x.line x.column → SpecFaultAt bytes f
  at_end : NoRowIn (lexed bytes).tokens → EndFault bytes (lexed bytes).ending f → SpecFaultAt bytes f

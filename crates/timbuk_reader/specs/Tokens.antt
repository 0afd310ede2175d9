-- The tokens of an input text as a caller gets them, and the fault where there are none (this project's own format).
use Rattle.std.specs.Prelude.{◌≡◌, ℕ, ◌+◌, ◌<◌, ◌≤◌, ◌&&◌, Bool, nat_lt, List, [], ◌∷◌, Option, Some, None, find, length}
use Rattle.std.specs.List.{slice_range}
use Rattle.timbuk_lex.specs.Lexing.{lexed}
use Rattle.timbuk_lex.specs.declared.lexeme.Lexeme.{Lexeme}
use Rattle.timbuk_lex.specs.declared.lex.Ending.{Ending}
use Rattle.timbuk_lex.specs.declared.lex.Ending.TheVariants.{Whole, Stopped}
use Rattle.timbuk_grammar.specs.Matching.{is_word}
use Rattle.spec_text.specs.declared.fault.SpecFault.{SpecFault}
use Rattle.spec_text.specs.declared.fault.SpecKind.TheVariants as kind
use Rattle.spec_text.specs.declared.fault.LimitName.TheVariants as limit
use Rattle.spec_text.specs.Limits.{most}
use Rattle.timbuk_reader.specs.declared.token.Token.{Token}
use Rattle.spec_text.specs.Rows.{fault, lexical_kind}

-- a token with a text of its own
abbrev pub token_of : Lexeme → Token
token_of x = record { kind = x.kind; text = x.text; start = x.start; line = x.line; column = x.column }

-- the token's text is the slice of the bytes at its place
pub record IsSlice (bytes : List ℕ) (t : Token) : Type 0 where
  pub within : t.start + length t.text ≤ length bytes
  pub slice : slice_range bytes t.start (t.start + length t.text) ≡ t.text

-- Each token begins at or after the end of the one before, the first at or after this place, and none is empty.
abbrev pub InOrder : ℕ → List Token → Type 0
InOrder from [] = Unit {0}
InOrder from (t ∷ ts) = (from ≤ t.start) × (0 < length t.text) × InOrder (t.start + length t.text) ts

-- a word of too many bytes
abbrev pub is_long_word : Lexeme → Bool
is_long_word x = is_word x.kind && nat_lt (most limit.NameBytes) (length x.text)

-- the fault of the byte that begins no token, where there is one
abbrev pub ending_fault : Ending → Option SpecFault
ending_fault Whole = None
ending_fault (Stopped why line column) = Some (fault (lexical_kind why) line column)

abbrev pub first_fault : Option Lexeme → Ending → Option SpecFault
first_fault (Some x) ending = Some (fault (kind.Limit limit.NameBytes) x.line x.column)
first_fault None ending = ending_fault ending

-- the first, from the left, of a word that is too long and of a byte that begins no token
abbrev pub token_fault : List ℕ → Option SpecFault
token_fault bytes = first_fault (find is_long_word (lexed bytes).tokens) (lexed bytes).ending

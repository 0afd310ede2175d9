-- A text cut into blanks, comments, tokens and a fault, as a relation (this project's own profile of Timbuk's input).
use Rattle.std.specs.Prelude.{◌≡◌, ℕ, ◌&&◌, ◌==◌, IsTrue, false, List, [], ◌∷◌, ◌++◌, length, slice_index, position, Some, None}
use Rattle.ranked_terms.specs.Words.{is_word_byte, IsWord}
use Rattle.timbuk_lex.specs.Bytes.{is_blank, is_mark_byte, is_quote, close_at}
use Rattle.timbuk_lex.specs.Places.{line_of, column_of}
use Rattle.timbuk_lex.specs.Lexing.{token_at, in_front}
use Rattle.timbuk_lex.specs.declared.lexeme.TokenKind.{TokenKind}
use Rattle.timbuk_lex.specs.declared.lexeme.TokenKind.TheVariants.{Word, Text, Mark}
use Rattle.timbuk_lex.specs.declared.piece.LexFault.{LexFault}
use Rattle.timbuk_lex.specs.declared.piece.LexFault.TheVariants.{BadByte, OpenComment, OpenText}
use Rattle.timbuk_lex.specs.declared.lex.Ending.TheVariants.{Whole, Stopped}
use Rattle.timbuk_lex.specs.declared.lex.Lexed.{Lexed}

-- the first byte, and 0 where there is none
abbrev pub next : List ℕ → ℕ
next rest = slice_index rest 0

-- A gap, and the text that follows it: a blank; or a comment, which ends with the first `*)` after its first two bytes.
pub data IsGap : List ℕ → List ℕ → Type 0 where
  blank : {b : ℕ} {rest : List ℕ} → IsTrue (is_blank b) → IsGap (b ∷ []) rest
  comment : (inside rest : List ℕ) → close_at (inside ++ 42 ∷ 41 ∷ rest) ≡ Some (length inside) → IsGap (40 ∷ 42 ∷ inside ++ 42 ∷ 41 ∷ []) rest

-- A token, and the text that follows it: a word that no word byte follows; a text, which ends with the first quote after
-- its first; `->`; or a mark of one byte, but no `(` that begins a comment.
pub data IsToken : TokenKind → List ℕ → List ℕ → Type 0 where
  word : {text rest : List ℕ} → IsWord text → is_word_byte (next rest) ≡ false → IsToken Word text rest
  text : (inside rest : List ℕ) → position is_quote (inside ++ 34 ∷ rest) ≡ Some (length inside) → IsToken Text (34 ∷ inside ++ 34 ∷ []) rest
  arrow : {rest : List ℕ} → IsToken Mark (45 ∷ 62 ∷ []) rest
  mark : {b : ℕ} {rest : List ℕ} → IsTrue (is_mark_byte b) → (b == 40 && next rest == 42) ≡ false → IsToken Mark (b ∷ []) rest

-- a byte that begins no gap, no token, no comment and no text
pub record BeginsNone (b : ℕ) (rest : List ℕ) : Type 0 where
  pub blank : is_blank b ≡ false
  pub word : is_word_byte b ≡ false
  pub quote : is_quote b ≡ false
  pub mark : is_mark_byte b ≡ false
  pub arrow : (b == 45 && next rest == 62) ≡ false

-- A text that begins with a fault: such a byte; a comment without an end; or a text without an end.
pub data IsFault : LexFault → List ℕ → Type 0 where
  byte : {b : ℕ} {rest : List ℕ} → BeginsNone b rest → IsFault BadByte (b ∷ rest)
  comment : {inside : List ℕ} → close_at inside ≡ None → IsFault OpenComment (40 ∷ 42 ∷ inside)
  text : {inside : List ℕ} → position is_quote inside ≡ None → IsFault OpenText (34 ∷ inside)

-- What follows the bytes before is cut into these tokens, with their places, and ends so: each byte up to the ending
-- lies in just one gap or token.
pub data IsCut : List ℕ → List ℕ → Lexed → Type 0 where
  whole : {before : List ℕ} → IsCut before [] (record { tokens = []; ending = Whole })
  gap : {before text rest : List ℕ} {l : Lexed} → IsGap text rest → IsCut (before ++ text) rest l → IsCut before (text ++ rest) l
  token : {before text rest : List ℕ} {kind : TokenKind} {l : Lexed} → IsToken kind text rest → IsCut (before ++ text) rest l → IsCut before (text ++ rest) (in_front (token_at kind before text) l)
  stopped : {before rest : List ℕ} {why : LexFault} → IsFault why rest → IsCut before rest (record { tokens = []; ending = Stopped why (line_of before) (column_of before) })

-- The piece at the front of a text, and its length (this project's own).
use Rattle.std.specs.Prelude.{ℕ, ◌+◌, ◌<◌, ◌≤◌, ◌&&◌, if◌then◌else◌, ◌==◌, List, drop, slice_index, position, Option, Some, None}
use Rattle.std.specs.List.{prefix_len}
use Rattle.ranked_terms.specs.Words.{is_word_byte}
use Rattle.timbuk_lex.specs.Bytes.{is_blank, is_mark_byte, is_quote, close_at}
use Rattle.timbuk_lex.specs.declared.lexeme.TokenKind.TheVariants.{Word, Text, Mark}
use Rattle.timbuk_lex.specs.declared.piece.LexFault.TheVariants.{BadByte, OpenComment, OpenText}
use Rattle.timbuk_lex.specs.declared.piece.Piece.{Piece}
use Rattle.timbuk_lex.specs.declared.piece.Piece.TheVariants.{Gap, Token, Fault}

-- `(*`, and the text up to the first `*)` after these two bytes
abbrev pub comment : Option ℕ → Piece
comment None = Fault OpenComment
comment (Some n) = Gap (n + 4)

-- a quote, and the text up to the next
abbrev pub quoted : Option ℕ → Piece
quoted None = Fault OpenText
quoted (Some n) = Token Text (n + 2)

-- The piece at the front, and its length. A word is as long as it can be.
unfoldable pub front : List ℕ → Piece
front rest =
    let b = slice_index rest 0 in
    let next = slice_index rest 1 in
    if is_blank b then Gap 1
    else (if is_word_byte b then Token Word (prefix_len is_word_byte rest)
    else (if is_quote b then quoted (position is_quote (drop 1 rest))
    else (if b == 40 && next == 42 then comment (close_at (drop 2 rest))
    else (if b == 45 && next == 62 then Token Mark 2
    else (if is_mark_byte b then Token Mark 1
    else Fault BadByte)))))

-- a length of at least one byte, and of no more than there are
abbrev pub IsLength : ℕ → ℕ → Type 0
IsLength n length = (0 < n) × (n ≤ length)

-- a piece of a text of this length
abbrev pub Fits : Piece → ℕ → Type 0
Fits (Gap n) length = IsLength n length
Fits (Token kind n) length = IsLength n length
Fits (Fault why) length = Unit {0}

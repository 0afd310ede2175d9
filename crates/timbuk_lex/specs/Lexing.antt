-- The tokens of a text, with their places (this project's own profile of Timbuk's input).
use Rattle.std.specs.Prelude.{ℕ, zero, suc, ◌-◌, List, [], ◌∷◌, ◌++◌, take, length}
use Rattle.timbuk_lex.specs.Places.{line_of, column_of}
use Rattle.timbuk_lex.specs.Pieces.{front}
use Rattle.timbuk_lex.specs.declared.lexeme.TokenKind.{TokenKind}
use Rattle.timbuk_lex.specs.declared.lexeme.Lexeme.{Lexeme}
use Rattle.timbuk_lex.specs.declared.piece.Piece.{Piece}
use Rattle.timbuk_lex.specs.declared.piece.Piece.TheVariants.{Gap, Token, Fault}
use Rattle.timbuk_lex.specs.declared.lex.Ending.TheVariants.{Whole, Stopped}
use Rattle.timbuk_lex.specs.declared.lex.Lexed.{Lexed}

-- the token of these bytes, right after the bytes before
abbrev pub token_at : TokenKind → List ℕ → List ℕ → Lexeme
token_at kind before text = record { kind = kind; text = text; start = length before; line = line_of before; column = column_of before }

-- a token in front of others
abbrev pub in_front : Lexeme → Lexed → Lexed
in_front t l = record { tokens = t ∷ l.tokens; ending = l.ending }

-- The piece at the front of `rest`, and what `on` gives for its length less one.
abbrev pub by_piece : Piece → List ℕ → List ℕ → (ℕ → Lexed) → Lexed
by_piece (Gap n) before rest on = on (n - 1)
by_piece (Token kind n) before rest on = in_front (token_at kind before (take n rest)) (on (n - 1))
by_piece (Fault why) before rest on = record { tokens = []; ending = Stopped why (line_of before) (column_of before) }

-- The tokens of what is left. `left` counts the bytes of a piece that are still to be passed.
abbrev pub lex_from : ℕ → List ℕ → List ℕ → Lexed
lex_from left before [] = record { tokens = []; ending = Whole }
lex_from (suc left) before (b ∷ rest) = lex_from left (before ++ b ∷ []) rest
lex_from zero before (b ∷ rest) = by_piece (front (b ∷ rest)) before (b ∷ rest) (λ left. lex_from left (before ++ b ∷ []) rest)

-- The tokens of a text: up to its end, or up to the first byte that begins none.
unfoldable pub lexed : List ℕ → Lexed
lexed = lex_from 0 []

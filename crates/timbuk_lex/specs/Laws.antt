-- What is claimed of the tokens of a text.
use Rattle.std.specs.Prelude.{◌≡◌, ℕ, ◌+◌, ◌<◌, ◌≤◌, List, [], ◌∷◌, length}
use Rattle.std.specs.List.{slice_range}
use Rattle.ranked_terms.specs.Words.{IsWord}
use Rattle.timbuk_lex.specs.Lexing.{lexed}
use Rattle.timbuk_lex.specs.Cut.{IsCut}
use Rattle.timbuk_lex.specs.declared.lexeme.TokenKind.TheVariants.{Word}
use Rattle.timbuk_lex.specs.declared.lexeme.Lexeme.{Lexeme}
use Rattle.timbuk_lex.specs.declared.lex.Lexed.{Lexed}

-- The tokens of a text cut it, and no other tokens, places or ending do.
pub record IsOneCut (bytes : List ℕ) : Type 0 where
  pub cut : IsCut [] bytes (lexed bytes)
  pub only : (l : Lexed) → IsCut [] bytes l → l ≡ lexed bytes

-- the text of a word is a word
abbrev pub HasWord : Lexeme → Type 0
HasWord t = t.kind ≡ Word → IsWord t.text

-- the token's text is the slice of the bytes at its place
pub record IsSliceOf (bytes : List ℕ) (t : Lexeme) : Type 0 where
  pub within : t.start + length t.text ≤ length bytes
  pub slice : slice_range bytes t.start (t.start + length t.text) ≡ t.text

-- Each token begins at or after the end of the one before, the first at or after this place, and none is empty.
abbrev pub InOrder : ℕ → List Lexeme → Type 0
InOrder from [] = Unit {0}
InOrder from (t ∷ ts) = (from ≤ t.start) × (0 < length t.text) × InOrder (t.start + length t.text) ts

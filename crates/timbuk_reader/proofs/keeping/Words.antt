-- The tokens that are left, and their words.
use Rattle.std.proofs.Common.{◌≡◌, ◌<◌, ◌≤◌, ◌-◌, ℕ, ◌∷◌, length, List, [], take, drop, refl, sym, subst, arith, Result, Ok, Err, MatchResult, Bor, IsOk}
use Rattle.std.specs.Prelude.{All}
use Rattle.std.specs.Str.{IsUtf8, IsValidUpTo, valid_up_to}
use Rattle.std.specs.declared.str.Utf8Error.{Utf8Error}
use Rattle.std.proofs.lemmas.List.{take_all}
use Rattle.std.proofs.lemmas.List.Elements.{All-tail}
use Rattle.ranked_terms.specs.Words.{IsWord}
use Rattle.timbuk_lex.specs.Laws.{HasWord}
use Rattle.timbuk_lex.specs.declared.lexeme.Lexeme.{Lexeme}
use Rattle.timbuk_lex.specs.declared.lexeme.TokenKind.TheVariants.{Word}

-- the tokens after the first
pub tail_words : (xs : List Lexeme) → 0 < length xs → All HasWord xs → All HasWord (take (length xs - 1) (drop 1 xs))
tail_words [] h w = absurd (omega arith)
tail_words (x ∷ xs) h w =
    let few : length xs ≤ length (x ∷ xs) - 1 = omega arith in
    subst (All HasWord) (sym (take_all (length (x ∷ xs) - 1) xs few)) (All-tail HasWord x xs w)

-- the bytes of a word are text
pub word_is_text : ((text : List ℕ) → IsWord text → IsUtf8 text) → (token : Lexeme) (bytes : List ℕ) (r : Result (Bor (List ℕ)) Utf8Error) → HasWord token → token.kind ≡ Word → bytes ≡ token.text
    → MatchResult r (λ s. (s.now ≡ bytes) × IsUtf8 bytes) (λ e. ¬ (IsUtf8 bytes) × IsValidUpTo bytes (valid_up_to e)) → IsOk r
word_is_text law token bytes (Ok s) word kind same h = refl
word_is_text law token bytes (Err e) word kind same h = absurd (h.0 (subst IsUtf8 (sym same) (law token.text (word kind))))

-- What the kit prints of a number is its word.
use Rattle.std.proofs.Common.{◌≡◌, ℕ, ◌+◌, ◌<◌, ◌^◌, ◌==◌, Bool, true, false, [], ◌∷◌, map, refl, sym, ap, ◌∙◌, arith}
use Rattle.std.specs.Prelude.{if◌then◌else◌}
use Rattle.std.specs.Fmt.{decimal}
use Rattle.std.specs.Int.Digits.{digits_of}
use Rattle.std.proofs.lemmas.Bool.{eqb-true, eqb-false}
use Rattle.std.proofs.lemmas.Fmt.{decimal-digits_of, decimal_digit}
use Rattle.ranked_terms.specs.Texts.{number_word}

pub decimal_is : (n : ℕ) → n < 2 ^ 64 → number_word n ≡ decimal n
decimal_is n small = go (n == 0) refl
  where
    go : (b : Bool) → (n == 0) ≡ b → (if b then 48 ∷ [] else map (λ d. 48 + d) (digits_of 10 n)) ≡ decimal n
    go true e = sym (decimal_digit 0 (omega arith)) ∙ ap decimal (sym (eqb-true n 0 e))
    go false e = let other = eqb-false n 0 e in sym (decimal-digits_of n (pos other) small)
      where
        pos : (n ≡ 0 → ⊥) → 0 < n
        pos other = grind (arith, other)

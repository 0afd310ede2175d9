-- Numbers of one to seven digits.
use Rattle.std.proofs.Common.{◌≡◌, ◌∙◌, ◌+◌, ◌-◌, ◌*◌, ◌<◌, ◌≤◌, ◌&&◌, ℕ, zero, suc, Bool, true, false, true≢false, refl, sym, ap, subst, arith, [], ◌∷◌, ◌++◌, length, get_or, take}
use Rattle.std.specs.Prelude.{nat_le}
use Rattle.std.proofs.lemmas.Bool.{leb-true}
use Rattle.std.proofs.lemmas.List.{take_more}
use Rattle.std.proofs.lemmas.List.Folds.{list_all_at}
use Rattle.command_words.specs.Words.{Text, is_digit, are_digits, number_after}

-- ten times itself, so many times
abbrev pub bound : ℕ → ℕ
bound zero = 1
bound (suc i) = bound i * 10

-- what fewer than seven digits stay below
pub below_million : (i n : ℕ) → i < 7 → n < bound i → n < 1000000
below_million zero n l b = omega (arith, b)
below_million (suc zero) n l b = omega (arith, b)
below_million (suc (suc zero)) n l b = omega (arith, b)
below_million (suc (suc (suc zero))) n l b = omega (arith, b)
below_million (suc (suc (suc (suc zero)))) n l b = omega (arith, b)
below_million (suc (suc (suc (suc (suc zero))))) n l b = omega (arith, b)
below_million (suc (suc (suc (suc (suc (suc zero)))))) n l b = omega (arith, b)
below_million (suc (suc (suc (suc (suc (suc (suc i))))))) n l b = absurd (omega (arith, l))

number_pushed : (n : ℕ) (digits : Text) (b : ℕ) → number_after n (digits ++ b ∷ []) ≡ number_after n digits * 10 + (b - 48)
number_pushed n [] b = refl
number_pushed n (d ∷ digits) b = number_pushed (n * 10 + (d - 48)) digits b

right : (a b : Bool) → (a && b) ≡ true → b ≡ true
right true b e = e
right false b e = absurd (true≢false (sym e))

pub digit_at_most : (d : ℕ) → is_digit d ≡ true → d ≤ 57
digit_at_most d e = leb-true d 57 (right (nat_le 48 d) (nat_le d 57) e)

digit_at : (digits : Text) (i : ℕ) → i < length digits → are_digits digits ≡ true → is_digit (get_or digits i 0) ≡ true
digit_at digits i l all = go (is_digit (get_or digits i 0)) refl
  where
    go : (b : Bool) → is_digit (get_or digits i 0) ≡ b → b ≡ true
    go true e = refl
    go false e = absurd (true≢false (sym all ∙ list_all_at is_digit digits i 0 l e))

-- one digit more, and the number stays below the bound
pub one_digit_more : (digits : Text) (i n : ℕ) → i < length digits → are_digits digits ≡ true → n ≡ number_after 0 (take i digits) → n < bound i →
    (n * 10 + (get_or digits i 0 - 48) ≡ number_after 0 (take (i + 1) digits)) × (n * 10 + (get_or digits i 0 - 48) < bound (i + 1))
one_digit_more digits i n l all is below =
    let d : ℕ = get_or digits i 0 in
    let most : d ≤ 57 = digit_at_most d (digit_at digits i l all) in
    let next : i + 1 ≡ suc i = omega arith in (
      ap (λ m. m * 10 + (d - 48)) is ∙ sym (ap (number_after 0) (take_more digits i 0 l) ∙ number_pushed 0 (take i digits) d),
      subst (λ j. n * 10 + (d - 48) < bound j) (sym next) (omega (arith, most, below)),
    )

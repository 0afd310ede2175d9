-- What the code knows of a number's word. These serve private contracts alone.
use Rattle.std.specs.Prelude.{◌≡◌, ℕ, ◌-◌, ◌^◌, Bool, false, ◌&&◌, ◌==◌, nat_le, List, [], ◌∷◌, min, map, length, if◌then◌else◌}
use Rattle.std.specs.List.{flat_map, list_all}
use Rattle.std.specs.Int.Digits.{number_from_digits}
use Rattle.ranked_terms.specs.Texts.{Text, number_word}

abbrev pub is_digit : ℕ → Bool
is_digit c = nat_le 48 c && nat_le c 57

-- the number that digits write
abbrev pub value_of : Text → ℕ
value_of word = number_from_digits 10 (map (λ c. c - 48) word)

-- digits, one at least, and `0` in front only where it is the only one
abbrev pub is_numeral : Text → Bool
is_numeral [] = false
is_numeral (c ∷ cs) = if c == 48 then length cs == 0 else list_all is_digit (c ∷ cs)

-- the word is a number's, and n is that number, or the greatest u32 where it is greater
pub record IsSaturated (word : Text) (n : ℕ) : Type 0 where
  pub number : ℕ
  pub told : word ≡ number_word number
  pub value : n ≡ min number (2 ^ 32 - 1)

-- each number with a byte in front
abbrev pub behind_each : ℕ → List ℕ → Text
behind_each b ns = flat_map (λ n. b ∷ number_word n) ns

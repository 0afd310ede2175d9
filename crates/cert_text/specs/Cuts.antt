-- The words of a line as the code meets them, one by one. These serve private contracts alone.
use Rattle.std.specs.Prelude.{◌≡◌, ℕ, ◌-◌, ◌^◌, ◌==◌, false, List, [], ◌∷◌, ◌++◌, All, map, min, Option, Some, None, codes}
use Rattle.std.specs.List.{slice_split, join_with_byte}
use Rattle.ranked_terms.specs.Words.{IsWord}
use Rattle.ranked_terms.specs.Texts.{Text, number_word, with_args}
use Rattle.cert_text.specs.Words.{Words}

-- the words of a line that is not ended yet
abbrev pub cut : ℕ → Text → Words
cut b text = slice_split (λ x. x == b) text

-- the words behind a word: none, or those behind the byte that parts them
abbrev pub behind : ℕ → Option Text → Words
behind b None = []
behind b (Some rest) = cut b rest

abbrev pub saturated : ℕ → ℕ
saturated n = min n (2 ^ 32 - 1)

-- the words are those of numbers, which were appended, the greatest u32 in the place of greater ones
pub record AppendsNumbers (words : Words) (old new : List ℕ) : Type 0 where
  pub numbers : List ℕ
  pub told : words ≡ map number_word numbers
  pub appended : new ≡ old ++ map saturated numbers

-- no byte of the text is b
abbrev pub Lacks : ℕ → Text → Type 0
Lacks b text = All (λ x. (x == b) ≡ false) text

-- the text is what stands in front of the first b, that, and what stands behind it
pub record IsParted (b : ℕ) (text front rest : Text) : Type 0 where
  pub told : text ≡ front ++ b ∷ rest
  pub lacks : Lacks b front

-- the text is the head with a number behind it
pub record IsNumberBehind (head text : Text) (n : ℕ) : Type 0 where
  pub number : ℕ
  pub told : text ≡ head ++ number_word number
  pub value : n ≡ saturated number

-- the text is the head with words of numbers behind it, and the numbers were appended
pub record AppendsBehind (head text : Text) (old new : List ℕ) : Type 0 where
  pub numbers : List ℕ
  pub told : text ≡ join_with_byte 32 (head ∷ map number_word numbers)
  pub appended : new ≡ old ++ map saturated numbers

-- the text of an epsilon transition's line
abbrev pub eps_text : ℕ → ℕ → Text
eps_text p q = codes "E " ++ (number_word p ++ (codes " -> " ++ number_word q))

pub record IsEps (text : Text) (m n : ℕ) : Type 0 where
  pub from : ℕ
  pub to : ℕ
  pub told : text ≡ eps_text from to
  pub from_value : m ≡ saturated from
  pub to_value : n ≡ saturated to

-- the word is a name with numbers in brackets, or alone where there is none, and the numbers were appended
pub record IsApplied (word name : Text) (old new : List ℕ) : Type 0 where
  pub is_word : IsWord name
  pub numbers : List ℕ
  pub told : word ≡ with_args name (map number_word numbers)
  pub appended : new ≡ old ++ map saturated numbers

-- the text of a transition's line
abbrev pub arrow_text : Text → ℕ → Text
arrow_text word q = codes "T " ++ (word ++ (codes " -> " ++ number_word q))

pub record IsAroundArrow (text word : Text) (n : ℕ) : Type 0 where
  pub lacks : Lacks 32 word
  pub to : ℕ
  pub told : text ≡ arrow_text word to
  pub value : n ≡ saturated to

-- The words that names are made of.
use Rattle.std.specs.Prelude.{ℕ, ◌≤◌, ◌<◌, Bool, ◌||◌, ◌==◌, List, length, IsTrue}
use Rattle.std.specs.List.{list_all}
use Rattle.std.specs.Char.{is_ascii_alphanumeric}
use Rattle.ranked_terms.specs.Limits.{max_name}

-- a letter, a digit, or one of _ ' # ! ? @ $ & % . + /
abbrev pub is_word_byte : ℕ → Bool
is_word_byte b = is_ascii_alphanumeric b || b == 95 || b == 39 || b == 35 || b == 33 || b == 63 || b == 64 || b == 36 || b == 38 || b == 37 || b == 46 || b == 43 || b == 47

-- a word: at least one of these bytes, and no others
pub record IsWord (text : List ℕ) : Type 0 where
  pub bytes : IsTrue (list_all is_word_byte text)
  pub some : 0 < length text

-- a word that is short enough to be a name
pub record IsNameText (text : List ℕ) : Type 0 where
  pub word : IsWord text
  pub short : length text ≤ max_name

-- A text as lines of words. This project's own format.
use Rattle.std.specs.Prelude.{ℕ, List, [], ◌∷◌, ◌++◌, map, codes}
use Rattle.std.specs.List.{flat_map, join_with_byte}
use Rattle.ranked_terms.specs.Texts.{Text, number_word}

-- a line is its words
abbrev pub Words : Type 0
Words = List Text

-- the bytes of a line: its words with a blank between, and a newline
abbrev pub line_text : Words → Text
line_text words = join_with_byte 32 words ++ 10 ∷ []

-- the bytes of lines
abbrev pub text_of : List Words → Text
text_of lines = flat_map line_text lines

-- a position: `e` for the root, else its numbers with `.` between
abbrev pub position_word : List ℕ → Text
position_word [] = codes "e"
position_word (k ∷ ks) = join_with_byte 46 (map number_word (k ∷ ks))

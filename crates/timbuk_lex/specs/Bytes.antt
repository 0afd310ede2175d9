-- The bytes of an input text, by what they begin (this project's own profile of Timbuk's input).
use Rattle.std.specs.Prelude.{ℕ, suc, option_map, Bool, ◌&&◌, ◌||◌, if◌then◌else◌, ◌==◌, List, [], ◌∷◌, slice_index, Option, Some, None}

-- space, tab, carriage return and newline
unfoldable pub is_blank : ℕ → Bool
is_blank b = b == 32 || b == 9 || b == 13 || b == 10

-- : ( ) , = [ ]
unfoldable pub is_mark_byte : ℕ → Bool
is_mark_byte b = b == 58 || b == 40 || b == 41 || b == 44 || b == 61 || b == 91 || b == 93

-- the byte that begins and ends a text
abbrev pub is_quote : ℕ → Bool
is_quote b = b == 34

-- the byte that ends a line
abbrev pub is_newline : ℕ → Bool
is_newline b = b == 10

-- where the first `*)` begins
unfoldable pub close_at : List ℕ → Option ℕ
close_at [] = None
close_at (b ∷ rest) = if b == 42 && slice_index rest 0 == 41 then Some 0 else option_map suc (close_at rest)

-- A signature as a list of names and arities.
use Rattle.std.specs.Prelude.{ℕ, List, Option, map, option_map, position, slice_get}
use Rattle.std.specs.Str.{bytes_eq}

-- a symbol's name and its arity
abbrev pub Symbol : Type 0
Symbol = List ℕ × ℕ

-- the names, in the order of the numbers
abbrev pub names_of : List Symbol → List (List ℕ)
names_of signature = map (λ s. s.0) signature

-- the number of a name
abbrev pub number_of : List Symbol → List ℕ → Option ℕ
number_of signature name = position (bytes_eq name) (names_of signature)

-- the arity of a number
abbrev pub arity_of : List Symbol → ℕ → Option ℕ
arity_of signature sym = option_map (λ s. s.1) (slice_get signature sym)

-- the name of a number
abbrev pub name_of : List Symbol → ℕ → Option (List ℕ)
name_of signature sym = option_map (λ s. s.0) (slice_get signature sym)

-- The numbers that bound names, symbols, variables and terms that are read (this project's own).
use Rattle.std.specs.Prelude.{ℕ}

-- the bytes of a name
abbrev pub max_name : ℕ
max_name = 255

-- the symbols of a signature
abbrev pub max_symbols : ℕ
max_symbols = 4096

-- the arguments of a symbol
abbrev pub max_arity : ℕ
max_arity = 16

-- the variables of a rule, of an equation, of an entry with its approximation rule, and of what is matched
abbrev pub max_variables : ℕ
max_variables = 16

-- the size of a term that is read from its text
abbrev pub max_size : ℕ
max_size = 1024

-- The number that bounds the states of an automaton (this project's own).
use Rattle.std.specs.Prelude.{ℕ}

-- the states of an automaton, and the first number that no state may have
abbrev pub max_states : ℕ
max_states = 16384

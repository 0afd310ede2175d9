-- Laws of emptiness.
use Rattle.std.specs.Prelude.{◌↔◌, ℕ, Contains}
use Rattle.ta_core.specs.TreeAutomaton.{TreeAutomaton}
use Rattle.ta_clean.specs.Productive.{IsProductive, IsEmpty}

-- an automaton accepts no term exactly where none of its final states is productive
abbrev pub EmptyByFinals : Type 0
EmptyByFinals = (A : TreeAutomaton) → IsEmpty A ↔ ((q : ℕ) → Contains A.finals q → IsProductive A q → ⊥)

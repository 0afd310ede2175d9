use Rattle.std.proofs.Common.{◌≡◌, ℕ, take}
use Rattle.std.specs.List.{All}
use Rattle.normalise.proofs.fitting.bind.Given as goal

-- no pair so far has the variable
abbrev pub invariant-loop-pair : goal.invariant-loop-pair
invariant-loop-pair l = All (λ (b : ℕ × ℕ). b.0 ≡ l.var → ⊥) (take l.pair-index l.pair-items)

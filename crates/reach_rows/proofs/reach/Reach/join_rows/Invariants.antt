use Rattle.std.proofs.Common.{◌≡◌, ◌↔◌, ℕ, length, take}
use Rattle.reach_rows.specs.Bits.{Has}
use Rattle.reach_rows.specs.Paths.{IsInRow}
use Rattle.reach_rows.proofs.reach.Reach.join_rows.Given as goal

abbrev pub invariant-loop-number : goal.invariant-loop-number
invariant-loop-number l = record { members : (q : ℕ) → Has l.bits q ↔ IsInRow l.self.rows (take l.number-index l.list) q; length : length l.bits ≡ length l.fn.bits }

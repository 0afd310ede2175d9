use Rattle.std.proofs.Common.{◌≡◌, ◌+◌, ℕ, List, length}
use Rattle.eq_merge.specs.Rows.{ForcedUpTo}
use Rattle.eq_merge.proofs.forced.forced_pair.Given as goal

abbrev pub invariant-loop-p : goal.invariant-loop-p
invariant-loop-p l = (done : List (ℕ × ℕ)) × ForcedUpTo l.a l.equations l.p-index done × (length done + l.left ≡ l.fn.j)

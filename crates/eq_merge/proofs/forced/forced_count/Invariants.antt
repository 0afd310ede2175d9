use Rattle.std.proofs.Common.{◌≡◌, ◌≤◌, ◌*◌, ℕ, List, length}
use Rattle.eq_merge.specs.Rows.{ForcedUpTo}
use Rattle.eq_merge.proofs.forced.forced_count.Given as goal

abbrev pub invariant-loop-p : goal.invariant-loop-p
invariant-loop-p l = record {
  counted : (done : List (ℕ × ℕ)) × ForcedUpTo l.a l.equations l.p-index done × (l.count ≡ length done);
  few : l.count ≤ l.p-index * 16384;
}

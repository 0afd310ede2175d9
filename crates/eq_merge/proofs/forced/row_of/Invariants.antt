use Rattle.std.proofs.Common.{[], take}
use Rattle.eq_merge.specs.Rows.{HasMore, IsOpposite}
use Rattle.eq_merge.proofs.forced.row_of.Given as goal

abbrev pub invariant-loop-ends : goal.invariant-loop-ends
invariant-loop-ends l = HasMore [] (take l.ends-index l.all) (IsOpposite l.p) l.found.items

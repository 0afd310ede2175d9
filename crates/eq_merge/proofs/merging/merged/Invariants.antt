use Rattle.std.proofs.Common.{length}
use Rattle.eq_merge.proofs.finding.OnTheWay.{IsMerging}
use Rattle.eq_merge.proofs.merging.merged.Given as goal

abbrev pub invariant-loop-merging : goal.invariant-loop-merging
invariant-loop-merging l = IsMerging l.equations l.a l.merging

abbrev pub decreases-loop-merging : goal.decreases-loop-merging
decreases-loop-merging l = length l.merging.automaton.states

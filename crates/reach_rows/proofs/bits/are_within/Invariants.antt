use Rattle.reach_rows.proofs.Words.{AreWithinBelow}
use Rattle.reach_rows.proofs.bits.are_within.Given as goal

abbrev pub invariant-loop-at : goal.invariant-loop-at
invariant-loop-at l = AreWithinBelow l.words l.others l.at

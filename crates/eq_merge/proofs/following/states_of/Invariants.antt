use Rattle.std.proofs.Common.{[], take}
use Rattle.eq_merge.specs.Rows.{HasMore}
use Rattle.eq_merge.proofs.finding.Parts.{StandsAt}
use Rattle.eq_merge.proofs.following.states_of.Given as goal

abbrev pub invariant-loop-t : goal.invariant-loop-t
invariant-loop-t l = HasMore [] (take l.t-index l.trans) StandsAt l.states.items

use Rattle.std.proofs.Common.{take}
use Rattle.eq_merge.specs.Rows.{HasMore, LeadsAcross}
use Rattle.eq_merge.proofs.forced.add_opposites.Given as goal

abbrev pub invariant-loop-end : goal.invariant-loop-end
invariant-loop-end l = HasMore l.initial.found.items (take l.end-index l.end-items) (LeadsAcross l.ends l.p) l.found.items

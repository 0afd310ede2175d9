use Rattle.std.proofs.Common.{take}
use Rattle.list_laws.proofs.Growing.{HasTargets, Keeps}
use Rattle.ta_core.proofs.reached.Reached.add_targets.Given as goal

abbrev pub invariant-loop-to : goal.invariant-loop-to
invariant-loop-to l = record { members : HasTargets l.fn.self (take l.to-index l.eps) l.self; kept : Keeps l.fn.self l.self }

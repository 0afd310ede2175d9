use Rattle.std.proofs.Common.{◌≡◌, take, length}
use Rattle.ta_core.specs.Singular.{AreMarked}
use Rattle.ta_core.proofs.singular.mark_targets.Given as goal

abbrev pub invariant-loop-t : goal.invariant-loop-t
invariant-loop-t l = AreMarked (take l.t-index l.transitions) l.flags × (length l.flags ≡ 16384)

use Rattle.std.proofs.Common.{◌≡◌, map, take}
use Rattle.ta_core.specs.Acceptance.{image}
use Rattle.eq_merge.proofs.renaming.Renaming.followed.Given as goal

abbrev pub invariant-loop-q : goal.invariant-loop-q
invariant-loop-q l = l.least.items ≡ map (image l.later) (take l.q-index l.q-items)

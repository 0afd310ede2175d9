use Rattle.ta_clean.specs.Sizes.{size_at}
use Rattle.ta_clean.proofs.least.Building.{AreBuilt}
use Rattle.ta_clean.proofs.building.Both.+build.Given as goal

abbrev pub invariant-loop-place : goal.invariant-loop-place
invariant-loop-place l = AreBuilt l.self l.sizes l.firsts l.seconds l.place l.args

abbrev pub decreases-build : goal.decreases-build
decreases-build l = size_at l.sizes.now (l.first, l.second)

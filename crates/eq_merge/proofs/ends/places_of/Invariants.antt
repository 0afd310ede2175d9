use Rattle.std.proofs.Common.{◌≡◌, take}
use Rattle.eq_merge.specs.Ends.{places_of}
use Rattle.eq_merge.proofs.ends.places_of.Given as goal

abbrev pub invariant-loop-v : goal.invariant-loop-v
invariant-loop-v l = l.places ≡ places_of l.vars (take l.v-index l.shared)

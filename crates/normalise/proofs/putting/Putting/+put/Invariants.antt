use Rattle.std.proofs.Common.{take}
use Rattle.std.specs.List.{All, Contains}
use Rattle.normalise.specs.Normalising.{PutsAll, StaysWithin}
use Rattle.normalise.proofs.Parts.{depth_of}
use Rattle.normalise.proofs.putting.Putting.+put.Given as goal

-- the arguments so far are put
abbrev pub invariant-loop-arg : goal.invariant-loop-arg
invariant-loop-arg l = record {
  puts : PutsAll l.self.task l.fn.growing (take l.arg-index l.arg-items) l.states.items l.growing;
  stand : All (Contains l.growing.states) l.states.items;
  within : StaysWithin l.self.most l.fn.growing l.growing;
}

abbrev pub decreases-put : goal.decreases-put
decreases-put l = depth_of l.part.now

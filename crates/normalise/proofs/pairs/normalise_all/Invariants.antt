use Rattle.std.proofs.Common.{take}
use Rattle.normalise.specs.Normalising.{by, NormalisedAll, StaysWithin}
use Rattle.normalise.proofs.pairs.normalise_all.Given as goal

-- the pairs so far are normalised
abbrev pub invariant-loop-pair : goal.invariant-loop-pair
invariant-loop-pair l = record {
  done : NormalisedAll (by l.fn.entries l.fn.map l.fn.rules) l.fn.a (take l.pair-index l.fn.pairs) l.growing;
  within : StaysWithin l.fn.max_states l.fn.a l.growing;
}

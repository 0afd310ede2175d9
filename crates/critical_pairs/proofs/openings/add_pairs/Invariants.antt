use Rattle.std.proofs.Common.{◌≡◌, ◌++◌, map, take}
use Rattle.critical_pairs.specs.Opens.{pair_of}
use Rattle.critical_pairs.proofs.openings.add_pairs.Given as goal

abbrev pub invariant-loop-state : goal.invariant-loop-state
invariant-loop-state l = l.pairs ≡ l.fn.pairs ++ map (pair_of l.number l.assignment) (take l.state-index l.states)

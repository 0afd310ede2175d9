use Rattle.std.proofs.Common.{◌≡◌, take, None}
use Rattle.ranked_terms.specs.Matching.{filled, lookup}
use Rattle.ranked_terms.proofs.binding.Binding.get.Given as goal

abbrev pub invariant-loop-slot : goal.invariant-loop-slot
invariant-loop-slot l = lookup (filled (take l.slot-index l.slot-items)) l.variable ≡ None

use Rattle.std.proofs.Common.{◌≡◌, ◌-◌, map, min, take}
use Rattle.ranked_terms.specs.Terms.{greatest, height_of}
use Rattle.ranked_terms.proofs.term.Term.+height_to.Given as goal

abbrev pub invariant-loop-arg : goal.invariant-loop-arg
invariant-loop-arg l = l.highest ≡ min (greatest (map height_of (take l.arg-index l.arg-items))) (l.cap - 1)

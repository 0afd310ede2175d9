use Rattle.std.proofs.Common.{◌≡◌, map, take}
use Rattle.ranked_terms.specs.Terms.{instance_of}
use Rattle.ranked_terms.specs.Matching.{binding_of}
use Rattle.ranked_terms.proofs.matching.+instance_under.Given as goal

abbrev pub invariant-loop-arg : goal.invariant-loop-arg
invariant-loop-arg l = l.terms ≡ map (instance_of (binding_of l.b)) (take l.arg-index l.arg-items)

use Rattle.std.proofs.Common.{◌≡◌, map, take}
use Rattle.ranked_terms.specs.Terms.{assigned}
use Rattle.ta_core.specs.Closure.{state_in}
use Rattle.ta_core.proofs.assignment.+assign.Given as goal

abbrev pub invariant-loop-arg : goal.invariant-loop-arg
invariant-loop-arg l = l.configs ≡ map (assigned (state_in l.variables l.states)) (take l.arg-index l.arg-items)

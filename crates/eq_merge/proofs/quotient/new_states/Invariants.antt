use Rattle.std.proofs.Common.{◌≡◌, map, take}
use Rattle.ta_core.specs.Acceptance.{image}
use Rattle.eq_merge.proofs.quotient.new_states.Given as goal

abbrev pub invariant-loop-q : goal.invariant-loop-q
invariant-loop-q l = l.new ≡ map (image l.classes) (take l.q-index l.states)

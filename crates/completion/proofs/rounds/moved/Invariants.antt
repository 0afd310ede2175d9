use Rattle.std.proofs.Common.{◌≡◌, map, take}
use Rattle.ta_core.specs.Acceptance.{image}
use Rattle.completion.proofs.rounds.moved.Given as goal

abbrev pub invariant-loop-state : goal.invariant-loop-state
invariant-loop-state l = l.states.items ≡ map (image l.classes) (take l.state-index l.state-items)

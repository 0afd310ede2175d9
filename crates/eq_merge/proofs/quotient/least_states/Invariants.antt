use Rattle.std.proofs.Common.{◌≡◌, ◌==◌, filter, take}
use Rattle.ta_core.specs.Acceptance.{image}
use Rattle.eq_merge.proofs.quotient.least_states.Given as goal

abbrev pub invariant-loop-q : goal.invariant-loop-q
invariant-loop-q l = l.least ≡ filter (λ q. image l.classes q == q) (take l.q-index l.states)

use Rattle.std.proofs.Common.{◌≡◌}
use Rattle.ta_core.specs.KeptAside.{with_states}
use Rattle.completion.proofs.standing.first_stage.Given as goal

abbrev pub invariant-loop : goal.invariant-loop
invariant-loop l = l.automaton ≡ with_states l.fn.spec.initial l.counter

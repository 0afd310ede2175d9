use Rattle.std.proofs.Common.{◌≡◌}
use Rattle.ta_core.specs.KeptAside.{with_states}
use Rattle.ta_core.proofs.growing.with_fresh.Given as goal

abbrev pub invariant-loop : goal.invariant-loop
invariant-loop l = l.grown ≡ with_states l.fn.base l.counter

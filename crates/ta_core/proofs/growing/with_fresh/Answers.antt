use Rattle.std.proofs.Common.{◌+◌, refl, sym, ap, ◌∙◌, arith}
use Rattle.ta_core.specs.KeptAside.{with_states}
use Rattle.ta_core.specs.Growth.{with_state}
use Rattle.ta_core.proofs.Grown.{states_state, no_states}
use Rattle.ta_core.proofs.growing.with_fresh.Goals as goal

pub loop-init : goal.loop-init
loop-init c = c.in_ok-grown.ensures ∙ sym (no_states c.args.base.now)

pub loop-preserved : goal.loop-preserved
loop-preserved c = c.in-Ok.ensures.ok ∙ (ap with_state c.loop.invariant ∙ sym (states_state c.args.base.now c.loop.counter (c.loop.counter + 1) refl))

pub returns : goal.returns
returns c = c.loop.invariant ∙ ap (with_states c.args.base.now) (omega arith)

use Rattle.std.proofs.Common.{◌+◌, refl, sym, ap, ◌∙◌, arith}
use Rattle.ta_core.specs.KeptAside.{with_states}
use Rattle.ta_core.specs.Growth.{with_state}
use Rattle.completion.proofs.Sequences.{no_states, one_state_more}
use Rattle.completion.proofs.standing.first_stage.Goals as goal

pub loop-init : goal.loop-init
loop-init c = c.in_ok-automaton.ensures ∙ sym (no_states c.args.spec.now.initial)

pub loop-preserved : goal.loop-preserved
loop-preserved c = c.in-Ok.ensures.ok ∙ (ap with_state c.loop.invariant ∙ sym (one_state_more c.args.spec.now.initial c.loop.counter (c.loop.counter + 1) refl))

pub returns : goal.returns
returns c = c.loop.invariant ∙ ap (with_states c.args.spec.now.initial) (omega arith)

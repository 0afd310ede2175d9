use Rattle.std.proofs.Common.{subst}
use Rattle.std.specs.List.{Contains}
use Rattle.timbuk_tests.proofs.of_ta_core.set_final.Goals as goal

pub set_final-requires : goal.set_final-requires
set_final-requires c = subst (λ states. Contains states c.args.q) c.states.ensures.value (c.is_state.ensures c.if-is_state.true)

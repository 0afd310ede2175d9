use Rattle.std.proofs.Common.{subst}
use Rattle.std.specs.List.{All, Contains}
use Rattle.timbuk_tests.proofs.of_ta_core.is_trans_of.Goals as goal

pub returns-then-are_states : goal.returns-then-are_states
returns-then-are_states c t =
    record { args = subst (All (Contains c.args.states.now)) c.as_slice.ensures (c.are_states.ensures c.if-are_states.true); to = c.is_state.ensures t }

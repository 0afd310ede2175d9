use Rattle.std.proofs.Common.{subst}
use Rattle.std.specs.List.{All}
use Rattle.ta_core.specs.TreeAutomaton.{IsTransOf}
use Rattle.timbuk_tests.proofs.of_ta_core.add_all_trans.Goals as goal

pub add_all_trans-requires : goal.add_all_trans-requires
add_all_trans-requires c =
    subst (All (IsTransOf c.args.automaton.now.states)) c.as_slice.ensures
    (subst (λ states. All (IsTransOf states) c.as_slice.result.now) c.states.ensures.value (c.are_trans_of.ensures c.if-are_trans_of.true))

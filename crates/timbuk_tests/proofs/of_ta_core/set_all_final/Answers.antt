use Rattle.std.proofs.Common.{subst, sym}
use Rattle.std.specs.List.{All, Contains}
use Rattle.timbuk_tests.proofs.of_ta_core.set_all_final.Goals as goal

pub set_all_final-requires : goal.set_all_final-requires
set_all_final-requires c =
    subst (All (Contains c.args.automaton.now.states)) (sym c.in_ok-from_slice.ensures)
    (subst (λ states. All (Contains states) c.args.more.now) c.states.ensures.value (c.are_states.ensures c.if-are_states.true))

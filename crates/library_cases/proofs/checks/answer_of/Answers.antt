use Rattle.std.proofs.Common.{subst}
use Rattle.std.specs.List.{All, Contains}
use Rattle.library_cases.proofs.checks.answer_of.Goals as goal

pub check-answer-requires-clause-states : goal.check-answer-requires-clause-states
check-answer-requires-clause-states c =
    subst (All (Contains c.args.automaton.now.states)) c.as_slice.ensures
    (subst (λ states. All (Contains states) c.as_slice.result.now) c.states.ensures.value (c.are_states.ensures c.if-not-are_states.false))

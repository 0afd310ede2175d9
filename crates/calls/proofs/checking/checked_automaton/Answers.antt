use Rattle.std.proofs.Common.{length, ap, arith}
use Rattle.std.proofs.lemmas.List.FromFn.{length-range_with_len}
use Rattle.calls.proofs.Shown.{says_of_automaton}
use Rattle.calls.proofs.checking.checked_automaton.Goals as goal

pub check-answer-requires-clause-map : goal.check-answer-requires-clause-map
check-answer-requires-clause-map c =
    let spec = c.args.spec.now in
    omega (arith, c.requires.each_state, ap length spec.initial_states, length-range_with_len 0 spec.initial.next)

pub returns : goal.returns
returns c =
    says_of_automaton c.args.spec.now c.args.automaton.now c.args.map.now c.check-answer.result c.check-answer.ensures.answer c.check-answer.ensures.yes c.check-answer.ensures.safe c.automaton_line.result
    c.automaton_line.ensures

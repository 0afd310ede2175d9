use Rattle.std.proofs.lemmas.Result.{IfOk-weaker}
use Rattle.state_match.specs.Rows.{AreWantedNext}
use Rattle.state_match.proofs.join.wanted_next.Goals as goal

pub returns : goal.returns
returns c =
    IfOk-weaker c.closed.result _ (AreWantedNext c.args.automaton.now c.args.reversed.now c.args.sym c.args.sets.now c.args.others.now c.args.arity c.args.wanted.now)
    (λ back closed. record { column = c.in_ok-column.column; next = c.in_ok-column.ensures.next; closed = closed }) c.closed.ensures

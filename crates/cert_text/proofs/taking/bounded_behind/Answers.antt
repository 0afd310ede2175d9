use Rattle.std.proofs.Common.{arith}
use Rattle.cert_text.proofs.rows.LineRows.{too_large}
use Rattle.cert_text.proofs.taking.bounded_behind.Goals as goal

pub returns-else-number-most-clause-none : goal.returns-else-number-most-clause-none
returns-else-number-most-clause-none c = λ none n small is.
    too_large c.args.head.now c.args.text.now c.in_ok-number.number c.args.most n c.in_ok-number.ensures.some (omega (arith, c.if-number-most.false)) c.requires small is

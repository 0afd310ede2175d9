use Rattle.reach_rows.proofs.Rows.{begins_ends, begins_wide}
use Rattle.reach_rows.proofs.reach.begin.Goals as goal

pub returns-clause-reaching : goal.returns-clause-reaching
returns-clause-reaching c = begins_ends c.args.rows.now c.loop-number.rows c.loop-number.number c.loop-number.invariant c.loop-number-test.false

pub returns-clause-wide : goal.returns-clause-wide
returns-clause-wide c = begins_wide c.args.rows.now c.loop-number.rows c.loop-number.number c.loop-number.invariant

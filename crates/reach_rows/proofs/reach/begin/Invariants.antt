use Rattle.reach_rows.proofs.Rows.{Begins}
use Rattle.reach_rows.proofs.reach.begin.Given as goal

abbrev pub invariant-loop-number : goal.invariant-loop-number
invariant-loop-number l = Begins l.fn.rows l.number l.rows

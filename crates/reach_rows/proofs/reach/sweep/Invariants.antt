use Rattle.std.proofs.Common.{◌≡◌, ◌≤◌, length}
use Rattle.reach_rows.specs.Tables.{AreReaching, AreWide, rows_left}
use Rattle.reach_rows.proofs.reach.sweep.Given as goal

abbrev pub invariant-loop-number : goal.invariant-loop-number
invariant-loop-number l = record {
  reaching : AreReaching l.edges l.rows;
  at_most : rows_left l.rows ≤ rows_left l.fn.rows;
  long : length l.rows ≡ length l.fn.rows;
  wide : AreWide (length l.spare) l.rows;
  spare : length l.spare ≡ length l.fn.spare;
}

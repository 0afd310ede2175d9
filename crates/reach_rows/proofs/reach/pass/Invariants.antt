use Rattle.std.proofs.Common.{◌≡◌, length, take}
use Rattle.reach_rows.specs.Tables.{AreWide, Passes}
use Rattle.reach_rows.proofs.reach.pass.Given as goal

abbrev pub invariant-loop-from : goal.invariant-loop-from
invariant-loop-from l = record {
  passes : Passes l.edges (take l.from-index l.edges) l.fn.rows l.rows l.more;
  wide : AreWide (length l.spare) l.rows;
  spare : length l.spare ≡ length l.fn.spare;
}

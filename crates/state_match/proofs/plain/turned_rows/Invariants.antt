use Rattle.std.proofs.Common.{◌≡◌, map, take}
use Rattle.state_match.specs.Rows.{turn_row}
use Rattle.state_match.proofs.plain.turned_rows.Given as goal

abbrev pub invariant-loop-t : goal.invariant-loop-t
invariant-loop-t l = l.turned ≡ map turn_row (take l.t-index l.rows)

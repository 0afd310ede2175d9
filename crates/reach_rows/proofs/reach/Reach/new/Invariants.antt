use Rattle.std.proofs.Common.{◌≡◌, ◌/◌, ◌+◌, length}
use Rattle.reach_rows.specs.Tables.{AreWide}
use Rattle.reach_rows.proofs.reach.Reach.new.Given as goal

abbrev pub invariant-loop : goal.invariant-loop
invariant-loop l = record { wide : AreWide (l.size / 64 + 1) l.rows.items; long : length l.rows.items ≡ l.counter }

use Rattle.std.proofs.Common.{◌≤◌, ◌*◌}
use Rattle.std.specs.Vec.{vec_capacity}
use Rattle.reach_rows.specs.Bits.{Lists}
use Rattle.reach_rows.proofs.bits.Bits.list_below.Given as goal

abbrev pub invariant-loop-place : goal.invariant-loop-place
invariant-loop-place l = record { lists : Lists l.self l.size (64 * l.place) l.list.items; room : l.size ≤ vec_capacity l.list }

use Rattle.std.proofs.Common.{◌≤◌, ◌+◌, ◌*◌}
use Rattle.std.specs.Vec.{vec_capacity}
use Rattle.reach_rows.specs.Bits.{Lists}
use Rattle.reach_rows.proofs.bits.list_word.Given as goal

abbrev pub invariant-loop-bit : goal.invariant-loop-bit
invariant-loop-bit l = record { lists : Lists l.bits l.size (64 * l.place + l.bit) l.list.items; room : l.size ≤ vec_capacity l.list }

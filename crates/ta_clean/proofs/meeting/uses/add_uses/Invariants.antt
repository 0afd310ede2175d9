use Rattle.std.proofs.Common.{◌≡◌, ◌≤◌, ◌+◌, length}
use Rattle.std.specs.Vec.{vec_capacity}
use Rattle.ta_clean.proofs.marking.UseLists.{HasUsesBelow}
use Rattle.ta_clean.proofs.meeting.uses.add_uses.Given as goal

abbrev pub invariant-loop-place : goal.invariant-loop-place
invariant-loop-place l = record {
  members : HasUsesBelow l.fn.items.items l.position l.trans l.place l.items.items;
  length : length l.items.items ≡ length l.fn.items.items + l.place;
  capacity : vec_capacity l.fn.items ≤ vec_capacity l.items;
}

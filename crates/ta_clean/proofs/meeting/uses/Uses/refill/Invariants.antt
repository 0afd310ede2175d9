use Rattle.std.proofs.Common.{◌≡◌, ◌≤◌, length, take}
use Rattle.std.specs.Vec.{vec_capacity}
use Rattle.ta_clean.specs.Uses.{places_of}
use Rattle.ta_clean.proofs.marking.UseLists.{HasUsesBefore}
use Rattle.ta_clean.proofs.meeting.uses.Uses.refill.Given as goal

abbrev pub invariant-loop-position : goal.invariant-loop-position
invariant-loop-position l = record {
  members : HasUsesBefore l.all l.position l.self-inside.items.items;
  length : length l.self-inside.items.items ≡ places_of (take l.position l.all);
  capacity : l.self-inside.room ≤ vec_capacity l.self-inside.items;
  room : l.self-inside.room ≡ l.fn.self.room;
}

use Rattle.std.proofs.Common.{◌≡◌, take}
use Rattle.ta_clean.specs.Uses.{places_of}
use Rattle.ta_clean.proofs.meeting.uses.Uses.new.Given as goal

abbrev pub invariant-loop-trans : goal.invariant-loop-trans
invariant-loop-trans l = l.count ≡ places_of (take l.trans-index l.all)

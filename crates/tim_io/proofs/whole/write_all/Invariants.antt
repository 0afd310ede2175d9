use Rattle.std.proofs.Common.{◌-◌, ◌≤◌, length, take}
use Rattle.std.specs.Io.KnownBytes.{Appends}
use Rattle.tim_io.proofs.whole.write_all.Given as goal

-- what was written is the bytes up to here
abbrev pub invariant-pieces : goal.invariant-pieces
invariant-pieces g l =
    let written = g.K.Sink.written in
    let faults = g.K.Sink.faults in
    record {
      wrote : Appends (written l.fn.sink) (written l.sink) (take l.at l.bytes);
      within : l.at ≤ length l.bytes;
      later : faults l.fn.sink ≤ faults l.sink;
    }

abbrev pub decreases-pieces : goal.decreases-pieces
decreases-pieces g l = length l.bytes - l.at

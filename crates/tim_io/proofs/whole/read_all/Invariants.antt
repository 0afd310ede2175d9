use Rattle.std.proofs.Common.{◌+◌, ◌-◌, ◌≤◌, vec_len}
use Rattle.std.specs.Io.KnownBytes.{Consumes}
use Rattle.tim_io.specs.Shelves.{OthersStay}
use Rattle.tim_io.proofs.whole.read_all.Given as goal

-- the bytes so far are what was taken
abbrev pub invariant-chunks : goal.invariant-chunks
invariant-chunks g l =
    let left = g.F.Shelf.left in
    let faults = g.F.Shelf.faults in
    record {
      taken : Consumes (left l.fn.shelf l.name) (left l.shelf l.name) l.bytes.items;
      within : vec_len l.bytes ≤ l.limit + 1;
      later : faults l.fn.shelf l.name ≤ faults l.shelf l.name;
      others : OthersStay (left l.fn.shelf) (left l.shelf) l.name;
      other_faults : OthersStay (faults l.fn.shelf) (faults l.shelf) l.name;
    }

abbrev pub decreases-chunks : goal.decreases-chunks
decreases-chunks g l = l.limit + 1 - vec_len l.bytes

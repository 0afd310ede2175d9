use Rattle.std.proofs.Common.{◌≡◌, take}
use Rattle.timbuk_reader.specs.NameTables.{texts_of}
use Rattle.timbuk_reader.proofs.names.NameTable.to_names.Given as goal

abbrev pub invariant-loop-name : goal.invariant-loop-name
invariant-loop-name l = l.names ≡ texts_of (take l.name-index l.name-items)

use Rattle.std.proofs.Common.{◌≡◌, map, take}
use Rattle.spec_text.specs.Naming.{shape_of}
use Rattle.timbuk_reader.proofs.rules.+pattern_of.Given as goal

abbrev pub invariant-loop-arg : goal.invariant-loop-arg
invariant-loop-arg l = map shape_of l.patterns ≡ take l.arg-index l.arg-items

use Rattle.std.proofs.Common.{◌≡◌, ◌≤◌, min, take}
use Rattle.spec_text.specs.Declarations.{value_of}
use Rattle.timbuk_reader.proofs.symbols.number_of.Given as goal

abbrev pub invariant-loop-digit : goal.invariant-loop-digit
invariant-loop-digit l = (l.number ≤ 17) × (l.number ≡ min (value_of (take l.digit-index l.digits)) 17)

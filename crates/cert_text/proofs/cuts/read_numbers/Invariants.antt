use Rattle.std.proofs.Common.{length, option_map}
use Rattle.cert_text.specs.Cuts.{behind}
use Rattle.cert_text.proofs.fields.Readings.{IsReading}
use Rattle.cert_text.proofs.cuts.read_numbers.Given as goal

abbrev pub invariant-loop-left : goal.invariant-loop-left
invariant-loop-left l = IsReading (behind l.fn.byte (option_map (λ rest. rest.now) l.fn.words)) (behind l.fn.byte (option_map (λ rest. rest.now) l.left)) l.fn.numbers.items l.numbers.items

abbrev pub decreases-loop-left : goal.decreases-loop-left
decreases-loop-left l = length (behind l.fn.byte (option_map (λ rest. rest.now) l.left))

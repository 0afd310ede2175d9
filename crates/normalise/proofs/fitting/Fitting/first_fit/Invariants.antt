use Rattle.std.proofs.Common.{take}
use Rattle.std.specs.List.{All}
use Rattle.normalise.proofs.PutSteps.{Never}
use Rattle.normalise.proofs.fitting.Fitting.first_fit.Given as goal

-- no entry so far fits
abbrev pub invariant-loop-entry : goal.invariant-loop-entry
invariant-loop-entry l = All (Never l.self l.node) (take l.entry-index l.self.entries)

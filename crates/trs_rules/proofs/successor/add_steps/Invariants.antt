use Rattle.std.proofs.Common.{take}
use Rattle.trs_rules.specs.Derivations.{AreStepsUpTo}
use Rattle.trs_rules.proofs.successor.add_steps.Given as goal

abbrev pub invariant-loop-at : goal.invariant-loop-at
invariant-loop-at l = AreStepsUpTo l.rules l.t l.rule (take l.at-index l.positions) l.found

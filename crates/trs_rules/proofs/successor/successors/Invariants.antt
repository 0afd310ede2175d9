use Rattle.std.proofs.Common.{[]}
use Rattle.trs_rules.specs.Derivations.{AreStepsUpTo}
use Rattle.trs_rules.proofs.successor.successors.Given as goal

abbrev pub invariant-loop-i : goal.invariant-loop-i
invariant-loop-i l = AreStepsUpTo l.rules l.t l.i [] l.found

use Rattle.std.proofs.Common.{take}
use Rattle.std.specs.List.{AllZip}
use Rattle.eq_merge.specs.Ends.{AreEnds}
use Rattle.eq_merge.proofs.forced.each_ends.Given as goal

abbrev pub invariant-loop-equation : goal.invariant-loop-equation
invariant-loop-equation l = AllZip (AreEnds l.matcher) (take l.equation-index l.equations) l.all

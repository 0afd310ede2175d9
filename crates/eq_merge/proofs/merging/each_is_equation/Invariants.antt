use Rattle.std.specs.List.{AllWithin}
use Rattle.trs_rules.specs.Rules.{IsEquation}
use Rattle.eq_merge.proofs.merging.each_is_equation.Given as goal

abbrev pub invariant-loop-equation : goal.invariant-loop-equation
invariant-loop-equation l = AllWithin IsEquation l.equations 0 l.equation-index

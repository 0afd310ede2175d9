use Rattle.std.specs.List.{AllWithin}
use Rattle.trs_rules.specs.Rules.{IsRule}
use Rattle.trs_rules.proofs.rule.each_is_rule.Given as goal

abbrev pub invariant-loop-rule : goal.invariant-loop-rule
invariant-loop-rule l = AllWithin IsRule l.rules 0 l.rule-index

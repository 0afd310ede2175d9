use Rattle.std.proofs.Common.{◌∙◌, subst, arith}
use Rattle.std.proofs.lemmas.List.{get_or_default}
use Rattle.std.proofs.lemmas.List.Elements.{AllWithin-more}
use Rattle.trs_rules.specs.Rules.{IsRule}
use Rattle.trs_rules.proofs.rule.each_is_rule.Goals as goal

pub loop-rule-preserved : goal.loop-rule-preserved
loop-rule-preserved c =
    let rules = c.args.rules.now in
    let at = c.loop-rule.rule-index in
    let rule = c.rule-item.result in
    AllWithin-more IsRule rules 0 at c.loop-rule.invariant
    (λ d. subst IsRule (c.rule-item.is ∙ get_or_default rules at rule d (omega (arith, c.loop-rule-test.true, c.loop-rule.auto.rule-index-end))) c.vars.ensures.rule)

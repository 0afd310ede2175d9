use Rattle.std.proofs.Common.{◌∙◌, subst, arith}
use Rattle.std.proofs.lemmas.List.{get_or_default}
use Rattle.std.proofs.lemmas.List.Elements.{AllWithin-more}
use Rattle.trs_rules.specs.Rules.{IsEquation}
use Rattle.eq_merge.proofs.merging.each_is_equation.Goals as goal

pub loop-equation-preserved : goal.loop-equation-preserved
loop-equation-preserved c =
    let equations = c.args.equations.now in
    let at = c.loop-equation.equation-index in
    let equation = c.equation-item.result in
    AllWithin-more IsEquation equations 0 at c.loop-equation.invariant
    (λ d. subst IsEquation (c.equation-item.is ∙ get_or_default equations at equation d (omega (arith, c.loop-equation-test.true, c.loop-equation.auto.equation-index-end))) c.vars.ensures.equation)

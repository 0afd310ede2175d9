use Rattle.std.proofs.Common.{◌+◌, ◌≤◌, All, length, take, subst, arith}
use Rattle.std.proofs.lemmas.List.{take_all}
use Rattle.std.proofs.lemmas.List.Elements.{All-more, All-weaker}
use Rattle.trs_rules.specs.Rules.{RewriteRule}
use Rattle.closure_check.specs.Rooms.{sets_of_rules, sets_of_sides}
use Rattle.closure_check.proofs.sets.RunningSets.{enough_of_rule, from_rules}
use Rattle.closure_check.proofs.fitting.sets_for_rules.Goals as goal

pub loop-rule-preserved : goal.loop-rule-preserved
loop-rule-preserved c =
    let R = c.args.rules.now in
    let k = c.loop-rule.rule-index in
    let rule = c.rule-item.result in
    let count = λ (r : RewriteRule). length r.vars + sets_of_sides r in (
      λ small. All-more (λ (r : RewriteRule). count r ≤ c.greater-most.result) R k rule c.loop-rule-test.true
          (All-weaker (λ (r : RewriteRule). count r ≤ c.loop-rule.most) (λ (r : RewriteRule). count r ≤ c.greater-most.result) (λ r le. omega (arith, le, c.greater-most.ensures)) (take k R) (c.loop-rule.invariant.0 (omega (arith, small, c.greater-most.ensures))))
          (subst (λ (r : RewriteRule). count r ≤ c.greater-most.result) c.rule-item.is (omega (arith, c.sets_for_rule.ensures.enough (omega (arith, small, c.greater-most.ensures)), c.greater-most.ensures))),
      omega (arith, c.greater-most.ensures, c.loop-rule.invariant.1, c.sets_for_rule.ensures.least, enough_of_rule R k rule (sets_of_rules R) c.loop-rule-test.true c.rule-item.is (omega arith)),
    )

pub returns-clause-enough : goal.returns-clause-enough
returns-clause-enough c small = from_rules c.args.rules.now c.loop-rule.most (subst (All (λ (r : RewriteRule). length r.vars + sets_of_sides r ≤ c.loop-rule.most)) (take_all c.loop-rule.rule-index c.args.rules.now c.loop-rule-test.false) (c.loop-rule.invariant.0 small))

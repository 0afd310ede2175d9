use Rattle.std.proofs.Common.{rules, refl}
use Rattle.trs_rules.proofs.patterns.VariableLaws.{over_full}
use Rattle.trs_rules.proofs.variables.Variables.+add_all.Goals as goal

pub returns-in_err-add_all-in-App-clause-refused : goal.returns-in_err-add_all-in-App-clause-refused
returns-in_err-add_all-in-App-clause-refused t c =
    let h = over_full c.as_slice-arg-items.result.now c.loop-arg.arg-index c.arg-item.result c.loop-arg.self _ c.loop-arg-test.true c.arg-item.is (c.in_err-add_all-in-App.ensures.refused.0 refl) c.loop-arg.invariant in
    (λ e. h, λ e. search rules)

use Rattle.std.proofs.Common.{◌==◌, ◌||◌, sym, ◌∙◌}
use Rattle.trs_rules.proofs.patterns.VariableLaws.{found_here, found_later}
use Rattle.trs_rules.proofs.occurrences.+first_of.Goals as goal

pub returns-in-Some : goal.returns-in-Some
returns-in-Some t c =
    found_here (λ x. x == c.args.v || x == c.args.w) c.as_slice-arg-items.result.now c.loop-arg.arg-index c.arg-item.result c.in-Some.x _ c.loop-arg-test.true c.arg-item.is c.in-Some.ensures c.loop-arg.invariant

pub loop-arg-preserved : goal.loop-arg-preserved
loop-arg-preserved t c =
    found_later (λ x. x == c.args.v || x == c.args.w) c.as_slice-arg-items.result.now c.loop-arg.arg-index c.arg-item.result _ c.loop-arg-test.true c.arg-item.is (sym c.in_default.is ∙ c.first_of.ensures) c.loop-arg.invariant

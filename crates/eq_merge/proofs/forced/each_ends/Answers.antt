use Rattle.std.proofs.Common.{◌+◌, ◌++◌, ◌∷◌, [], take, sym, subst, ◌∙◌}
use Rattle.std.specs.List.{AllZip}
use Rattle.std.proofs.lemmas.List.{take_more}
use Rattle.eq_merge.specs.Ends.{AreEnds}
use Rattle.eq_merge.proofs.finding.Gathering.{one_more_zip}
use Rattle.eq_merge.proofs.forced.each_ends.Goals as goal

pub loop-equation-preserved : goal.loop-equation-preserved
loop-equation-preserved c =
    let A = c.args.matcher.now in
    let E = c.args.equations.now in
    let i = c.loop-equation.equation-index in
    let x = c.equation-item.result in
    subst (AllZip (AreEnds A) (take (i + 1) E)) (sym c.in_ok-push.ensures.ok)
    (subst (λ es. AllZip (AreEnds A) es (c.loop-equation.all ++ c.in_ok-ends_of.field-0 ∷ [])) (sym (take_more E i x c.loop-equation-test.true ∙ (λ j. take i E ++ sym c.equation-item.is j ∷ [])))
    (one_more_zip (AreEnds A) (take i E) c.loop-equation.all x c.in_ok-ends_of.field-0 c.loop-equation.invariant c.in_ok-ends_of.ensures))

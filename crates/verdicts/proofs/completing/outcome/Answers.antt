use Rattle.std.proofs.Common.{IsTrue}
use Rattle.std.proofs.lemmas.Result.{IfOk-weaker}
use Rattle.cert_text.specs.Certificates.{outcome_is_over}
use Rattle.verdicts.specs.Verdicts.{Verdict}
use Rattle.verdicts.specs.Shown.{Shows, IsCheckable}
use Rattle.verdicts.specs.Answers.{IsAnswer}
use Rattle.verdicts.proofs.completing.outcome.Goals as goal

pub returns-clause-verdict : goal.returns-clause-verdict
returns-clause-verdict c =
    IfOk-weaker c.answer.result (IsAnswer c.args.spec.now c.args.options) (Verdict c.args.spec.now c.args.options) (λ o a. a.verdict) c.answer.ensures

pub returns-clause-shows : goal.returns-clause-shows
returns-clause-shows c = IfOk-weaker c.answer.result (IsAnswer c.args.spec.now c.args.options) (Shows c.args.spec.now) (λ o a. a.shows) c.answer.ensures

pub returns-clause-checkable : goal.returns-clause-checkable
returns-clause-checkable c = IfOk-weaker c.answer.result (IsAnswer c.args.spec.now c.args.options) (IsCheckable c.args.spec.now) (λ o a. a.checkable) c.answer.ensures

pub returns-clause-over : goal.returns-clause-over
returns-clause-over c =
    IfOk-weaker c.answer.result (IsAnswer c.args.spec.now c.args.options) (λ o. IsTrue (outcome_is_over c.args.spec.now.signature o)) (λ o a. a.over) c.answer.ensures

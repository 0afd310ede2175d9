use Rattle.calls.proofs.Shown.{says_of_derivation}
use Rattle.calls.proofs.checking.checked_derivation.Goals as goal

pub returns : goal.returns
returns c =
    says_of_derivation c.args.spec.now c.args.derivation.now c.in_ok-answer.answer c.in_ok-answer.ensures.answer c.in_ok-answer.ensures.yes c.in_ok-answer.ensures.reaches c.derivation_line.result
    c.derivation_line.ensures

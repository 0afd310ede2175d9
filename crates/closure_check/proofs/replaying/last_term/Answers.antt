use Rattle.std.proofs.Common.{◌≡◌, ◌-◌, length, slice_get, Some, subst}
use Rattle.closure_check.proofs.firsts.LastTerms.{last_read, last_step}
use Rattle.closure_check.proofs.replaying.last_term.Goals as goal

pub returns-in-Some : goal.returns-in-Some
returns-in-Some c =
    let read = last_read c.as_slice.result.now c.in-Some.step.now c.in-Some.ensures.item.0 c.in-Some.ensures.item.1 in
    last_step c.args.d.now c.in-Some.step.now (subst (λ steps. slice_get steps (length steps - 1) ≡ Some c.in-Some.step.now) c.as_slice.ensures read)

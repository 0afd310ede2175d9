use Rattle.std.proofs.Common.{refl}
use Rattle.cert_text.proofs.fields.Behind.{eps_unparted, eps_parted}
use Rattle.cert_text.proofs.cuts.eps_of.Goals as goal

pub returns-in_err-from-clause-none : goal.returns-in_err-from-clause-none
returns-in_err-from-clause-none c = λ none p q e. eps_unparted c.args.text.now c.in_ok-behind_head.field-0.now p q c.in_ok-behind_head.ensures (c.in_err-from.ensures.none refl) e

pub returns-in_err-from-2-clause-none : goal.returns-in_err-from-2-clause-none
returns-in_err-from-2-clause-none c = λ none p q e.
    let f = eps_parted c.args.text.now c.in_ok-behind_head.field-0.now c.in_ok-from.from.now c.in_ok-from.rest.now p q c.in_ok-behind_head.ensures c.in_ok-from.ensures.some e in
    c.in_err-from-2.ensures.none refl p f.front

pub returns-in_err-to-clause-none : goal.returns-in_err-to-clause-none
returns-in_err-to-clause-none c = λ none p q e.
    let f = eps_parted c.args.text.now c.in_ok-behind_head.field-0.now c.in_ok-from.from.now c.in_ok-from.rest.now p q c.in_ok-behind_head.ensures c.in_ok-from.ensures.some e in
    c.in_err-to.ensures.none refl q f.rest

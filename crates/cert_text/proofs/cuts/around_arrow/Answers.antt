use Rattle.std.proofs.Common.{refl}
use Rattle.cert_text.proofs.fields.Arrows.{unparted, parted_at}
use Rattle.cert_text.proofs.cuts.around_arrow.Goals as goal

pub returns-in_err-word-clause-none : goal.returns-in_err-word-clause-none
returns-in_err-word-clause-none c = λ none word q free e. unparted c.args.text.now c.in_ok-behind_head.field-0.now word q c.in_ok-behind_head.ensures (c.in_err-word.ensures.none refl) free e

pub returns-in_err-to-clause-none : goal.returns-in_err-to-clause-none
returns-in_err-to-clause-none c = λ none word q free e.
    let f = parted_at c.args.text.now c.in_ok-behind_head.field-0.now c.in_ok-word.word.now c.in_ok-word.rest.now word q c.in_ok-behind_head.ensures c.in_ok-word.ensures.some free e in
    c.in_err-to.ensures.none refl q f.rest

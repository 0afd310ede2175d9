use Rattle.cert_text.proofs.fields.Behind.{no_number}
use Rattle.cert_text.proofs.cuts.number_behind.Goals as goal

pub returns-clause-none : goal.returns-clause-none
returns-clause-none c = λ none m e. no_number c.args.head.now c.args.text.now c.in_ok-behind_head.field-0.now m c.in_ok-behind_head.ensures (c.number_of.ensures.none none) e

use Rattle.std.proofs.Common.{rules}
use Rattle.cert_text.proofs.fields.Behind.{head_first, blank_next, numbers_yes, numbers_no}
use Rattle.cert_text.proofs.cuts.numbers_behind.Goals as goal

pub returns-in_default-clause-no : goal.returns-in_default-clause-no
returns-in_default-clause-no c = λ _ ns e. head_first c.args.head.now c.args.text.now ns c.in_default.ensures e

pub returns-in_default-behind_head-clause-no : goal.returns-in_default-behind_head-clause-no
returns-in_default-behind_head-clause-no c = λ _ ns e.
    blank_next c.args.head.now c.args.text.now c.in-Some.rest.now ns c.in-Some.ensures (λ z. search rules) c.in_default-behind_head.ensures e

pub returns-clause-yes : goal.returns-clause-yes
returns-clause-yes c = λ ok.
    numbers_yes c.args.head.now c.args.text.now c.in-Some.rest.now c.in-Some-behind_head.words.now c.args.numbers.now.items c.read_numbers.new.numbers.items c.in-Some.ensures c.in-Some-behind_head.ensures (c.read_numbers.ensures.yes ok)

pub returns-clause-no : goal.returns-clause-no
returns-clause-no c = λ ok ns e.
    numbers_no c.args.head.now c.args.text.now c.in-Some.rest.now c.in-Some-behind_head.words.now ns c.in-Some.ensures c.in-Some-behind_head.ensures (c.read_numbers.ensures.no ok) e

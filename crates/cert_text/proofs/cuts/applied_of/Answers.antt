use Rattle.std.proofs.Common.{rules}
use Rattle.cert_text.proofs.rows.Told.{is_not, is_so}
use Rattle.cert_text.proofs.fields.Arrows.{no_name, unclosed, no_numbers, with_numbers}
use Rattle.cert_text.proofs.cuts.applied_of.Goals as goal

pub returns-then-not-is_word-clause-none : goal.returns-then-not-is_word-clause-none
returns-then-not-is_word-clause-none c = λ _ f qs is e.
    no_name c.args.word.now c.in-Some.name.now c.in-Some.inside.now f qs c.in-Some.ensures.some (is_not c.is_word-2.result _ (search rules) c.is_word-2.ensures) is e

pub returns-in_default-without_last-clause-none : goal.returns-in_default-without_last-clause-none
returns-in_default-without_last-clause-none c = λ _ f qs is e.
    unclosed c.args.word.now c.in-Some.name.now c.in-Some.inside.now f qs c.in-Some.ensures.some c.in_default-without_last.ensures is e

pub returns-then-not-branch-clause-none : goal.returns-then-not-branch-clause-none
returns-then-not-branch-clause-none c = λ _ f qs is e.
    no_numbers c.args.word.now c.in-Some.name.now c.in-Some.inside.now c.in-Some-without_last.args.now f qs c.in-Some.ensures.some c.in-Some-without_last.ensures (c.read_numbers.ensures.no (search rules)) is e

pub returns-clause-some : goal.returns-clause-some
returns-clause-some c =
    with_numbers c.args.word.now c.in-Some.name.now c.in-Some.inside.now c.in-Some-without_last.args.now c.args.numbers.now.items c.read_numbers.new.numbers.items
    (is_so c.is_word-2.result _ (search rules) c.is_word-2.ensures) c.in-Some.ensures.some c.in-Some-without_last.ensures (c.read_numbers.ensures.yes (search rules))

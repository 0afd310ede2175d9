use Rattle.std.proofs.Common.{rules, ◌≡◌, ◌∙◌, ap, option_map, subst, Option, None, ℕ}
use Rattle.std.specs.Borrow.{Bor}
use Rattle.ranked_terms.specs.Texts.{Text}
use Rattle.cert_text.specs.Words.{Words}
use Rattle.cert_text.specs.Cuts.{behind}
use Rattle.cert_text.proofs.fields.Readings.{IsReading, begins, goes_on, is_read, is_no_number, shorter}
use Rattle.cert_text.proofs.cuts.read_numbers.Goals as goal

abbrev words_at : ℕ → Option (Bor Text) → Words
words_at b words = behind b (option_map (λ rest. rest.now) words)

pub loop-left-init : goal.loop-left-init
loop-left-init c = begins _ _

pub returns-in_default-number_of-clause-no : goal.returns-in_default-number_of-clause-no
returns-in_default-number_of-clause-no c = λ _ ns e.
    is_no_number (words_at c.args.byte c.args.words) (words_at c.args.byte c.loop-left.left) (words_at c.args.byte c.front_word.result.1) c.args.numbers.now.items c.loop-left.numbers.items c.front_word.result.0.now ns
    c.loop-left.invariant (ap (words_at c.args.byte) c.in-Some.is ∙ c.front_word.ensures) (search rules) e

pub loop-left-smaller : goal.loop-left-smaller
loop-left-smaller c = shorter (words_at c.args.byte c.loop-left.left) (words_at c.args.byte c.front_word.result.1) c.front_word.result.0.now (ap (words_at c.args.byte) c.in-Some.is ∙ c.front_word.ensures)

pub loop-left-preserved : goal.loop-left-preserved
loop-left-preserved c =
    goes_on (words_at c.args.byte c.args.words) (words_at c.args.byte c.loop-left.left) (words_at c.args.byte c.front_word.result.1) c.args.numbers.now.items c.loop-left.numbers.items c.push.new.self.items c.front_word.result.0.now c.in-Some-number_of.number
    c.loop-left.invariant (ap (words_at c.args.byte) c.in-Some.is ∙ c.front_word.ensures) (search rules) c.in_ok-push.ensures.items

pub returns-clause-yes : goal.returns-clause-yes
returns-clause-yes c = λ _.
    is_read (words_at c.args.byte c.args.words) c.args.numbers.now.items c.loop-left.numbers.items
    (subst (λ (left : Words). IsReading (words_at c.args.byte c.args.words) left c.args.numbers.now.items c.loop-left.numbers.items) (let left_is : c.loop-left.left ≡ None = search rules in ap (words_at c.args.byte) left_is) c.loop-left.invariant)

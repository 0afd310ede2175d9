use Rattle.std.proofs.Common.{◌∙◌, ◌==◌, get_or, sym, true≢false}
use Rattle.ranked_terms.proofs.texts.HeadLaws.{empty_stops, first_stops, stops_first, not_true, true_not}
use Rattle.ranked_terms.proofs.reading.stops.Goals as goal

pub returns-then-is_empty : goal.returns-then-is_empty
returns-then-is_empty c = (λ h. empty_stops c.args.text.now (sym c.is_empty.ensures ∙ c.if-is_empty.true), λ h. c.if-is_empty.true)

pub returns-then-not-is_word_byte : goal.returns-then-not-is_word_byte
returns-then-not-is_word_byte c =
    let text = c.args.text.now in
    let some = sym c.is_empty.ensures ∙ c.if-is_empty.false in
    let word = sym c.is_word_byte.ensures ∙ c.if-not-is_word_byte.true in
    (λ h. first_stops text some word (true_not (get_or text 0 0 == 40) h), λ h. not_true (get_or text 0 0 == 40) (stops_first text some h).1)

pub returns-else-not-is_word_byte : goal.returns-else-not-is_word_byte
returns-else-not-is_word_byte c =
    let text = c.args.text.now in
    let some = sym c.is_empty.ensures ∙ c.if-is_empty.false in
    let word = sym c.is_word_byte.ensures ∙ c.if-not-is_word_byte.false in
    (λ h. absurd (true≢false (sym c.if-not-is_word_byte.false ∙ true_not c.is_word_byte.result h)), λ h. absurd (true≢false (sym word ∙ (stops_first text some h).0)))

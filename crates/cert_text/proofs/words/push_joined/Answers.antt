use Rattle.std.proofs.Common.{◌++◌, ◌∙◌, ap, sym, take, drop, length, ◌-◌, get_or}
use Rattle.ranked_terms.specs.Texts.{number_word}
use Rattle.cert_text.specs.Numerals.{behind_each}
use Rattle.cert_text.proofs.format.Written.{joined_from, further}
use Rattle.cert_text.proofs.words.push_joined.Goals as goal

pub returns-in_ok-push_numbers-in-len1-up : goal.returns-in_ok-push_numbers-in-len1-up
returns-in_ok-push_numbers-in-len1-up c =
    let ns = c.args.numbers.now in
    further c.args.out.now.items c.push_number.new.out.items c.push_numbers.new.out.items (number_word (get_or ns 0 0)) (behind_each c.args.byte (take (length ns - 1) (drop 1 ns))) c.in_ok-push_number-in-len1-up.ensures c.in_ok-push_numbers-in-len1-up.ensures
    ∙ ap (λ x. c.args.out.now.items ++ x) (sym (joined_from c.args.byte ns c.in-len1-up.len_at_least))

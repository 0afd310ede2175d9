use Rattle.std.proofs.Common.{map, refl, rules}
use Rattle.ranked_terms.specs.Texts.{number_word, with_args}
use Rattle.cert_text.proofs.format.Formed.{applied_free}
use Rattle.cert_text.proofs.fields.Arrows.{arrow_word}
use Rattle.cert_text.proofs.entries.trans_fields.Goals as goal

pub returns-in_default-clause-none : goal.returns-in_default-clause-none
returns-in_default-clause-none c = λ _ f qs q is e. c.in_default.ensures.none refl (with_args f (map number_word qs)) q (applied_free f qs is) e

pub returns-in_default-2-clause-none : goal.returns-in_default-2-clause-none
returns-in_default-2-clause-none c = λ _ f qs q is e.
    c.in_ok-name.ensures.none (search rules) f qs is (arrow_word c.args.text.now c.in-Some.word.now (with_args f (map number_word qs)) c.in-Some.to q c.in-Some.ensures.some (applied_free f qs is) e)

use Rattle.std.proofs.Common.{◌∙◌, sym, ap, true≢false}
use Rattle.cert_text.specs.Numerals.{is_numeral, value_of}
use Rattle.cert_text.proofs.fields.Numbers.{numeral_is, number_is_numeral}
use Rattle.cert_text.proofs.words.number_of.Goals as goal

pub returns-then-is_numeral-clause-found : goal.returns-then-is_numeral-clause-found
returns-then-is_numeral-clause-found c = record {
  number = value_of c.args.word.now;
  told = numeral_is c.args.word.now (sym c.is_numeral.ensures ∙ c.if-is_numeral.true);
  value = c.saturated.ensures;
}

pub returns-else-is_numeral-clause-none : goal.returns-else-is_numeral-clause-none
returns-else-is_numeral-clause-none c = λ _ m e.
    absurd (true≢false (sym (number_is_numeral m) ∙ ap is_numeral (sym e) ∙ sym c.is_numeral.ensures ∙ c.if-is_numeral.false))

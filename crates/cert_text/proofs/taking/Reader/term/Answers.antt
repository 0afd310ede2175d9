use Rattle.std.proofs.Common.{rules}
use Rattle.ranked_terms.specs.Texts.{IsTextOf}
use Rattle.cert_text.specs.declared.certificate.CertKind.TheVariants as kind
use Rattle.cert_text.specs.Paths.{IsWrongTerm, form, symbol}
use Rattle.cert_text.proofs.rows.Told.{is_not, is_so, told_fault}
use Rattle.cert_text.proofs.rows.PathRows.{text_form, none_tells}
use Rattle.cert_text.proofs.taking.Reader.term.Goals as goal

pub returns-in-Some-clause-right : goal.returns-in-Some-clause-right
returns-in-Some-clause-right c =
    let told : IsTextOf c.args.sig.now c.args.text.now c.in-Some.term = (c.in_ok-term.ensures c.in-Some.term).0 c.in-Some.is in
    (told, text_form c.args.sig.now c.len-symbols.ensures.valid c.args.text.now c.in-Some.term told)

pub returns-then-formed-clause-wrong : goal.returns-then-formed-clause-wrong
returns-then-formed-clause-wrong c = λ f is.
    told_fault (IsWrongTerm c.args.sig.now c.args.text.now) c.args.self.now.line kind.Symbol f (cc)
    (symbol (is_so c.is_term_text-formed.result _ (search rules) c.is_term_text-formed.ensures) (none_tells c.args.sig.now c.args.text.now c.in_ok-term.field-0 c.in-None.is c.in_ok-term.ensures))

pub returns-else-formed-clause-wrong : goal.returns-else-formed-clause-wrong
returns-else-formed-clause-wrong c = λ f is.
    told_fault (IsWrongTerm c.args.sig.now c.args.text.now) c.args.self.now.line kind.Line f (cc) (form (is_not c.is_term_text-formed.result _ (search rules) c.is_term_text-formed.ensures))

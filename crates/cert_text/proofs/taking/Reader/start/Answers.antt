use Rattle.std.proofs.Common.{ap, rules, ◌∙◌}
use Rattle.cert_text.specs.declared.certificate.CertKind.TheVariants as kind
use Rattle.cert_text.proofs.rows.LineRows.{place, refused, unended_row}
use Rattle.cert_text.proofs.rows.PathRows.{start_row, start_wrong, start_taken, term_within}
use Rattle.cert_text.proofs.taking.Reader.start.Goals as goal

pub returns-in-Err-clause-refused : goal.returns-in-Err-clause-refused
returns-in-Err-clause-refused c = λ f is spec k same at.
    let fault = c.in-Err.ensures.fault.0 in
    refused spec k c.args.self.now.rest.now c.whole_line.new.self.line kind.Line f (cc) (unended_row spec k c.args.self.now.rest.now (ap place at) c.in-Err.ensures.fault.1)

pub returns-in-None-clause-refused : goal.returns-in-None-clause-refused
returns-in-None-clause-refused c = λ f is spec k same at.
    refused spec k c.args.self.now.rest.now c.whole_line.new.self.line kind.Line f (cc)
    (start_row spec k c.args.sig.now c.args.self.now.rest.now c.in-Ok.text.now c.whole_line.new.self.rest.now same at c.in-Ok.ensures.line.0 c.in-Ok.ensures.line.1 (λ t form e. c.in-None.ensures t e))

pub returns-in-Ok-term-clause-taken : goal.returns-in-Ok-term-clause-taken
returns-in-Ok-term-clause-taken c = λ spec k same at.
    start_taken spec k c.args.sig.now c.args.self.now.rest.now c.in-Ok.text.now c.whole_line.new.self.rest.now same at c.in-Ok.ensures.line.0 c.in-Some.word.now c.in-Ok-term.term c.in-Some.ensures c.in-Ok-term.ensures.right

pub returns-in-Ok-term-clause-term : goal.returns-in-Ok-term-clause-term
returns-in-Ok-term-clause-term c = term_within c.args.sig.now c.in-Some.word.now c.in-Ok-term.term c.in-Ok-term.ensures.right.0

pub returns-in-Err-term-clause-refused : goal.returns-in-Err-term-clause-refused
returns-in-Err-term-clause-refused c = λ f is spec k same at.
    let bad = c.in-Err-term.ensures.wrong f (cc) in
    record {
      number_is = bad.0 ∙ (search rules);
      row = start_wrong spec k c.args.sig.now c.args.self.now.rest.now c.in-Ok.text.now c.whole_line.new.self.rest.now same at c.in-Ok.ensures.line.0 c.in-Some.word.now f.kind c.in-Ok.ensures.line.1 c.in-Some.ensures bad.1;
    }

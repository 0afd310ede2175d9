use Rattle.std.proofs.Common.{ap, refl, rules}
use Rattle.cert_text.specs.declared.certificate.CertKind.TheVariants as kind
use Rattle.cert_text.proofs.rows.Told.{is_not, is_so}
use Rattle.cert_text.proofs.rows.LineRows.{place, refused, unended_row, noted_row, precise_taken, next_taken}
use Rattle.cert_text.proofs.taking.Reader.after_rounds.Goals as goal

pub returns-in-Err-clause-refused : goal.returns-in-Err-clause-refused
returns-in-Err-clause-refused c = λ f is spec k i at.
    let same = c.in-Err.ensures.fault.0 in
    refused spec k c.args.self.now.rest.now c.whole_line.new.self.line kind.Line f (cc) (unended_row spec k c.args.self.now.rest.now (ap place at) c.in-Err.ensures.fault.1)

pub returns-then-precise-clause-taken : goal.returns-then-precise-clause-taken
returns-then-precise-clause-taken c = λ spec k i at.
    precise_taken spec k i c.args.self.now.rest.now c.in-Ok.text.now c.whole_line.new.self.rest.now at c.in-Ok.ensures.line.0 (is_so c.is_text-precise.result _ (search rules) c.is_text-precise.ensures)

pub returns-in-Some-clause-taken : goal.returns-in-Some-clause-taken
returns-in-Some-clause-taken c = λ spec k i at.
    next_taken spec k i c.args.self.now.rest.now c.in-Ok.text.now c.whole_line.new.self.rest.now c.in-Some.next at c.in-Ok.ensures.line.0 c.in-Some.ensures.some.0 c.in-Some.ensures.some.1

pub returns-in-None-clause-refused : goal.returns-in-None-clause-refused
returns-in-None-clause-refused c = λ f is spec k i at.
    refused spec k c.args.self.now.rest.now c.whole_line.new.self.line kind.Line f (cc) (noted_row spec k i c.args.self.now.rest.now c.in-Ok.text.now c.whole_line.new.self.rest.now at c.in-Ok.ensures.line.0 c.in-Ok.ensures.line.1 (is_not c.is_text-precise.result _ (search rules) c.is_text-precise.ensures) (c.in-None.ensures.none refl))

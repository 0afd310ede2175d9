use Rattle.std.proofs.Common.{ap, refl}
use Rattle.cert_text.specs.declared.certificate.CertKind.TheVariants as kind
use Rattle.cert_text.proofs.rows.LineRows.{place, refused, unended_row, rounds_row, rounds_taken}
use Rattle.cert_text.proofs.taking.Reader.rounds.Goals as goal

pub returns-in-Err-clause-refused : goal.returns-in-Err-clause-refused
returns-in-Err-clause-refused c = λ f is spec k at.
    let same = c.in-Err.ensures.fault.0 in
    refused spec k c.args.self.now.rest.now c.whole_line.new.self.line kind.Line f (cc) (unended_row spec k c.args.self.now.rest.now (ap place at) c.in-Err.ensures.fault.1)

pub returns-in-Some-clause-taken : goal.returns-in-Some-clause-taken
returns-in-Some-clause-taken c = λ spec k at.
    rounds_taken spec k c.args.self.now.rest.now c.in-Ok.text.now c.whole_line.new.self.rest.now c.in-Some.rounds at c.in-Ok.ensures.line.0 c.in-Some.ensures.some.0 c.in-Some.ensures.some.1

pub returns-in-None-clause-refused : goal.returns-in-None-clause-refused
returns-in-None-clause-refused c = λ f is spec k at.
    refused spec k c.args.self.now.rest.now c.whole_line.new.self.line kind.Line f (cc) (rounds_row spec k c.args.self.now.rest.now c.in-Ok.text.now c.whole_line.new.self.rest.now at c.in-Ok.ensures.line.0 c.in-Ok.ensures.line.1 (c.in-None.ensures.none refl))

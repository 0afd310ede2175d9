use Rattle.std.proofs.Common.{ap, refl, rules}
use Rattle.std.specs.Prelude.{Some}
use Rattle.cert_text.specs.declared.certificate.CertKind.TheVariants as kind
use Rattle.cert_text.proofs.rows.Told.{is_not, is_so}
use Rattle.cert_text.proofs.rows.LineRows.{place, refused, unended_row}
use Rattle.cert_text.proofs.rows.EpsRows.{behind_eps, end_taken, eps_row, eps_wrong, eps_right}
use Rattle.cert_text.proofs.taking.Reader.after_eps.Goals as goal

pub returns-in-Err-clause-refused : goal.returns-in-Err-clause-refused
returns-in-Err-clause-refused c = λ f is spec k at known.
    let same = c.in-Err.ensures.fault.0 in
    refused spec k c.args.self.now.rest.now c.whole_line.new.self.line kind.Line f (cc) (unended_row spec k c.args.self.now.rest.now (ap place at) c.in-Err.ensures.fault.1)

pub returns-then-over-clause-taken : goal.returns-then-over-clause-taken
returns-then-over-clause-taken c = λ spec k at known.
    end_taken spec k (Some c.args.last) c.args.self.now.rest.now c.in-Ok.text.now c.whole_line.new.self.rest.now (behind_eps spec.signature k.before c.args.last at) c.in-Ok.ensures.line.0 (is_so c.is_text-over.result _ (search rules) c.is_text-over.ensures)

pub returns-in-None-clause-refused : goal.returns-in-None-clause-refused
returns-in-None-clause-refused c = λ f is spec k at known.
    refused spec k c.args.self.now.rest.now c.whole_line.new.self.line kind.Line f (cc) (eps_row spec k c.args.last.0 c.args.last.1 c.args.self.now.rest.now c.in-Ok.text.now c.whole_line.new.self.rest.now at c.in-Ok.ensures.line.0 c.in-Ok.ensures.line.1 (is_not c.is_text-over.result _ (search rules) c.is_text-over.ensures) (c.in-None.ensures.none refl))

pub returns-in-Some-wrong_eps-clause-refused : goal.returns-in-Some-wrong_eps-clause-refused
returns-in-Some-wrong_eps-clause-refused c = λ f is spec k at known.
    refused spec k c.args.self.now.rest.now c.whole_line.new.self.line c.in-Some-wrong_eps.kind f (cc)
    (eps_wrong spec k c.args.states.now (Some c.args.last) c.in-Some.pair c.args.self.now.rest.now c.in-Ok.text.now c.whole_line.new.self.rest.now (behind_eps spec.signature k.before c.args.last at) c.requires.below known c.in-Ok.ensures.line.0 c.in-Some.ensures.some
    c.in-Some-wrong_eps.kind c.in-Some-wrong_eps.ensures.wrong)

pub returns-in-None-wrong_eps-clause-taken : goal.returns-in-None-wrong_eps-clause-taken
returns-in-None-wrong_eps-clause-taken c = λ spec k at known.
    eps_right spec k c.args.states.now (Some c.args.last) c.in-Some.pair c.args.self.now.rest.now c.in-Ok.text.now c.whole_line.new.self.rest.now (behind_eps spec.signature k.before c.args.last at) c.requires.below known c.in-Ok.ensures.line.0 c.in-Some.ensures.some
    (c.in-None-wrong_eps.ensures.right refl)

use Rattle.std.proofs.Common.{rules, ◌∙◌, subst, List, ℕ}
use Rattle.std.specs.Prelude.{IfSome}
use Rattle.cert_text.specs.declared.certificate.CertKind.TheVariants as kind
use Rattle.cert_text.specs.Certificates.{step_line, IsCertStep}
use Rattle.cert_text.specs.Taking.{Taken}
use Rattle.cert_text.specs.Paths.{IsStepText}
use Rattle.cert_text.proofs.rows.Told.{is_not, is_so}
use Rattle.cert_text.proofs.rows.LineRows.{refused, unended_row}
use Rattle.cert_text.proofs.fields.PathFields.{term_is}
use Rattle.cert_text.proofs.rows.PathRows.{may_place, step_row, step_over, step_wrong, step_many, step_taken, step_within}
use Rattle.cert_text.proofs.taking.Reader.step.Goals as goal

pub returns-in-Err-clause-refused : goal.returns-in-Err-clause-refused
returns-in-Err-clause-refused c = λ f is spec k at.
    let fault = c.in-Err.ensures.fault.0 in
    refused spec k c.args.self.now.rest.now c.whole_line.new.self.line kind.Line f (cc) (unended_row spec k c.args.self.now.rest.now (may_place k.before at.may) c.in-Err.ensures.fault.1)

pub returns-then-over-clause-taken : goal.returns-then-over-clause-taken
returns-then-over-clause-taken c = λ spec k at.
    step_over spec k c.args.sig.now c.args.count c.args.self.now.rest.now c.in-Ok.text.now c.whole_line.new.self.rest.now at c.in-Ok.ensures.line.0 (is_so c.is_text-over.result _ (search rules) c.is_text-over.ensures)

pub returns-in-None-clause-refused : goal.returns-in-None-clause-refused
returns-in-None-clause-refused c = λ f is spec k at.
    refused spec k c.args.self.now.rest.now c.whole_line.new.self.line kind.Line f (cc)
    (step_row spec k c.args.sig.now c.args.count c.args.self.now.rest.now c.in-Ok.text.now c.whole_line.new.self.rest.now at c.in-Ok.ensures.line.0 c.in-Ok.ensures.line.1 (is_not c.is_text-over.result _ (search rules) c.is_text-over.ensures)
    (λ r ks t small places form e. c.in_ok-fields.ensures.none (search rules) r ks t small places e))

pub returns-in-Err-term-clause-refused : goal.returns-in-Err-term-clause-refused
returns-in-Err-term-clause-refused c = λ f is spec k at.
    let it : IsStepText c.in-Ok.text.now c.in-Some.fields.0 c.step_fields.new.at.items c.in-Some.fields.1.now = subst (λ o. IfSome o (λ r. IsStepText c.in-Ok.text.now r.0 c.step_fields.new.at.items r.1.now)) c.in-Some.is c.in_ok-fields.ensures.some in
    let bad = c.in-Err-term.ensures.wrong f (cc) in
    record {
      number_is = bad.0 ∙ (search rules);
      row = step_wrong spec k c.args.sig.now c.args.count c.args.self.now.rest.now c.in-Ok.text.now c.whole_line.new.self.rest.now at c.in-Ok.ensures.line.0 c.in-Some.fields.0 c.step_fields.new.at.items c.in-Some.fields.1.now it f.kind c.in-Ok.ensures.line.1 (is_not c.is_text-over.result _ (search rules) c.is_text-over.ensures)
          (term_is c.in-Ok.text.now c.in-Some.fields.1.now c.in-Some.fields.0 c.step_fields.new.at.items it) bad.1;
    }

pub returns-then-count-ge-MAX_STEPS-clause-refused : goal.returns-then-count-ge-MAX_STEPS-clause-refused
returns-then-count-ge-MAX_STEPS-clause-refused c = λ f is spec k at.
    let it : IsStepText c.in-Ok.text.now c.in-Some.fields.0 c.step_fields.new.at.items c.in-Some.fields.1.now = subst (λ o. IfSome o (λ r. IsStepText c.in-Ok.text.now r.0 c.step_fields.new.at.items r.1.now)) c.in-Some.is c.in_ok-fields.ensures.some in
    refused spec k c.args.self.now.rest.now c.whole_line.new.self.line kind.Count f (cc)
    (step_many spec k c.args.sig.now c.args.count c.args.self.now.rest.now c.in-Ok.text.now c.whole_line.new.self.rest.now at c.in-Ok.ensures.line.0 c.in-Some.fields.0 c.step_fields.new.at.items c.in-Some.fields.1.now it c.in-Ok-term.term c.in-Ok-term.ensures.right c.if-count-ge-MAX_STEPS.true)

pub returns-clause-taken : goal.returns-clause-taken
returns-clause-taken c = λ spec k at.
    let it : IsStepText c.in-Ok.text.now c.in-Some.fields.0 c.step_fields.new.at.items c.in-Some.fields.1.now = subst (λ o. IfSome o (λ r. IsStepText c.in-Ok.text.now r.0 c.step_fields.new.at.items r.1.now)) c.in-Some.is c.in_ok-fields.ensures.some in
    subst (λ (ks : List ℕ). Taken spec k c.args.self.now.rest.now (step_line c.args.sig.now (record { rule = c.in-Some.fields.0; at = ks; term = c.in-Ok-term.term })) c.whole_line.new.self.rest.now) (search rules)
    (step_taken spec k c.args.sig.now c.args.count c.args.self.now.rest.now c.in-Ok.text.now c.whole_line.new.self.rest.now at c.in-Ok.ensures.line.0 c.in-Some.fields.0 c.step_fields.new.at.items c.in-Some.fields.1.now it c.in-Ok-term.term c.in-Ok-term.ensures.right c.if-count-ge-MAX_STEPS.false)

pub returns-clause-right : goal.returns-clause-right
returns-clause-right c =
    let it : IsStepText c.in-Ok.text.now c.in-Some.fields.0 c.step_fields.new.at.items c.in-Some.fields.1.now = subst (λ o. IfSome o (λ r. IsStepText c.in-Ok.text.now r.0 c.step_fields.new.at.items r.1.now)) c.in-Some.is c.in_ok-fields.ensures.some in (
      subst (λ (ks : List ℕ). IsCertStep c.args.sig.now (record { rule = c.in-Some.fields.0; at = ks; term = c.in-Ok-term.term })) (search rules)
          (step_within c.args.sig.now c.in-Ok.text.now c.in-Some.fields.1.now c.in-Some.fields.0 c.step_fields.new.at.items c.in-Ok-term.term it c.in-Ok-term.ensures.right.0),
      c.if-count-ge-MAX_STEPS.false,
    )

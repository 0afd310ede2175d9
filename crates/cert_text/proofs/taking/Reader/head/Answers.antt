use Rattle.std.proofs.Common.{subst, rules}
use Rattle.std.specs.Prelude.{Bool}
use Rattle.cert_text.specs.declared.certificate.CertKind.TheVariants as kind
use Rattle.cert_text.specs.Taking.{IsFirstLine}
use Rattle.cert_text.proofs.rows.Told.{is_not, is_so}
use Rattle.cert_text.proofs.rows.LineRows.{refused, head_row, head_unended, head_taken}
use Rattle.cert_text.proofs.taking.Reader.head.Goals as goal

pub returns-then-not-is_text-clause-refused : goal.returns-then-not-is_text-clause-refused
returns-then-not-is_text-clause-refused c = λ f is spec k at.
    refused spec k c.args.self.now.rest.now c.take_line-ended.new.self.line kind.Head f (cc) (head_row spec k c.args.self.now.rest.now c.take_line-ended.result.0.now c.take_line-ended.new.self.rest.now c.take_line-ended.result.1 at c.take_line-ended.ensures.first (is_not c.is_text.result _ (search rules) c.is_text.ensures))

pub returns-then-not-ended-clause-refused : goal.returns-then-not-ended-clause-refused
returns-then-not-ended-clause-refused c = λ f is spec k at.
    refused spec k c.args.self.now.rest.now c.take_line-ended.new.self.line kind.Line f (cc) (head_unended spec k c.args.self.now.rest.now c.take_line-ended.result.0.now c.take_line-ended.new.self.rest.now at (subst (λ (b : Bool). IsFirstLine c.args.self.now.rest.now c.take_line-ended.result.0.now c.take_line-ended.new.self.rest.now b) (search rules) c.take_line-ended.ensures.first) (is_so c.is_text.result _ (search rules) c.is_text.ensures))

pub returns-clause-taken : goal.returns-clause-taken
returns-clause-taken c = λ spec k at.
    head_taken spec k c.args.self.now.rest.now c.take_line-ended.result.0.now c.take_line-ended.new.self.rest.now at (subst (λ (b : Bool). IsFirstLine c.args.self.now.rest.now c.take_line-ended.result.0.now c.take_line-ended.new.self.rest.now b) (search rules) c.take_line-ended.ensures.first) (is_so c.is_text.result _ (search rules) c.is_text.ensures)

use Rattle.std.proofs.Common.{subst, rules, true, false}
use Rattle.std.specs.Prelude.{Bool}
use Rattle.cert_text.specs.declared.certificate.CertKind.TheVariants as kind
use Rattle.cert_text.specs.Taking.{IsFirstLine}
use Rattle.cert_text.proofs.rows.Told.{is_not, is_so}
use Rattle.cert_text.proofs.rows.LineRows.{refused, claim_row, verdict_unended, verdict_row, verdict_taken}
use Rattle.cert_text.proofs.taking.Reader.verdict.Goals as goal

pub returns-then-undecided-clause-refused : goal.returns-then-undecided-clause-refused
returns-then-undecided-clause-refused c = λ f is spec k at.
    refused spec k c.args.self.now.rest.now c.take_line-ended.new.self.line kind.NoClaim f (cc) (claim_row spec k c.args.self.now.rest.now c.take_line-ended.result.0.now c.take_line-ended.new.self.rest.now c.take_line-ended.result.1 at c.take_line-ended.ensures.first (is_so c.is_text-undecided.result _ (search rules) c.is_text-undecided.ensures))

pub returns-then-not-ended-clause-refused : goal.returns-then-not-ended-clause-refused
returns-then-not-ended-clause-refused c = λ f is spec k at.
    refused spec k c.args.self.now.rest.now c.take_line-ended.new.self.line kind.Line f (cc) (verdict_unended spec k c.args.self.now.rest.now c.take_line-ended.result.0.now c.take_line-ended.new.self.rest.now at (subst (λ (b : Bool). IsFirstLine c.args.self.now.rest.now c.take_line-ended.result.0.now c.take_line-ended.new.self.rest.now b) (search rules) c.take_line-ended.ensures.first) (is_not c.is_text-undecided.result _ (search rules) c.is_text-undecided.ensures))

pub returns-then-reaches-clause-taken : goal.returns-then-reaches-clause-taken
returns-then-reaches-clause-taken c = λ spec k at.
    verdict_taken spec k c.args.self.now.rest.now c.take_line-ended.result.0.now c.take_line-ended.new.self.rest.now true at (subst (λ (b : Bool). IsFirstLine c.args.self.now.rest.now c.take_line-ended.result.0.now c.take_line-ended.new.self.rest.now b) (search rules) c.take_line-ended.ensures.first) (is_so c.is_text-reaches.result _ (search rules) c.is_text-reaches.ensures)

pub returns-then-safe-clause-taken : goal.returns-then-safe-clause-taken
returns-then-safe-clause-taken c = λ spec k at.
    verdict_taken spec k c.args.self.now.rest.now c.take_line-ended.result.0.now c.take_line-ended.new.self.rest.now false at (subst (λ (b : Bool). IsFirstLine c.args.self.now.rest.now c.take_line-ended.result.0.now c.take_line-ended.new.self.rest.now b) (search rules) c.take_line-ended.ensures.first) (is_so c.is_text-safe.result _ (search rules) c.is_text-safe.ensures)

pub returns-clause-refused : goal.returns-clause-refused
returns-clause-refused c = λ f is spec k at.
    refused spec k c.args.self.now.rest.now c.take_line-ended.new.self.line kind.Line f (cc) (verdict_row spec k c.args.self.now.rest.now c.take_line-ended.result.0.now c.take_line-ended.new.self.rest.now at (subst (λ (b : Bool). IsFirstLine c.args.self.now.rest.now c.take_line-ended.result.0.now c.take_line-ended.new.self.rest.now b) (search rules) c.take_line-ended.ensures.first) (is_not c.is_text-undecided.result _ (search rules) c.is_text-undecided.ensures)
    (is_not c.is_text-safe.result _ (search rules) c.is_text-safe.ensures) (is_not c.is_text-reaches.result _ (search rules) c.is_text-reaches.ensures))

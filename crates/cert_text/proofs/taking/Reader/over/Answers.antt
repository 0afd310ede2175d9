use Rattle.std.proofs.Common.{rules, ◌+◌}
use Rattle.cert_text.specs.declared.certificate.CertKind.TheVariants as kind
use Rattle.cert_text.proofs.rows.LineRows.{refused}
use Rattle.cert_text.proofs.whole.WholeTexts.{end_row}
use Rattle.cert_text.proofs.taking.Reader.over.Goals as goal

pub returns-clause-refused : goal.returns-clause-refused
returns-clause-refused c = λ f is spec k at. refused spec k c.args.self.now.rest.now (c.args.self.now.line + 1) kind.Line f (cc) (end_row spec k c.args.self.now.rest.now at (λ none. search rules))

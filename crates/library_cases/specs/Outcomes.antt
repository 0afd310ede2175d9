-- The outcome that a certificate tells.
use Rattle.cert_text.specs.declared.certificate.Certificate.{Certificate}
use Rattle.cert_text.specs.declared.certificate.Certificate.TheVariants as certificate
use Rattle.cert_text.specs.declared.outcome.Outcome.{Outcome}
use Rattle.cert_text.specs.declared.outcome.Outcome.TheVariants as outcome

abbrev pub outcome_of : Certificate → Outcome
outcome_of (certificate.Unreachable i precise A h) = outcome.Unreachable i precise A h
outcome_of (certificate.Reachable d) = outcome.Reachable d

-- What `complete` answers for a specification and its limits. This project's own.
use Rattle.std.specs.Prelude.{◌≡◌, ℕ, List}
use Rattle.ta_core.specs.declared.spec.Spec.{Spec}
use Rattle.ta_core.specs.declared.options.Options.{Options}
use Rattle.command_words.specs.Words.{Limits}
use Rattle.command_words.specs.Said.{limits_from}
use Rattle.cert_text.specs.Certificates.{certificate_text}
use Rattle.cert_text.specs.declared.outcome.Outcome.{Outcome}
use Rattle.verdicts.specs.Verdicts.{Verdict}
use Rattle.verdicts.specs.Shown.{Shows, IsCheckable}

-- The outcome is a verdict by the limits, it shows what it says and can be checked, and this is its text.
pub record Completes (spec : Spec) (limits : Limits) (text : List ℕ) (o : Outcome) : Type 0 where
  pub options : Options
  pub same_limits : limits_from options ≡ limits
  pub verdict : Verdict spec options o
  pub shows : Shows spec o
  pub checkable : IsCheckable spec o
  pub is_text : text ≡ certificate_text spec o

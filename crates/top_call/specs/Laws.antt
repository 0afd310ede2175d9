-- Laws of the answers.
use Rattle.std.specs.Prelude.{◌≡◌, List, Option}
use Rattle.ta_core.specs.declared.spec.Spec.{Spec}
use Rattle.cert_text.specs.Certificates.{certificate_text}
use Rattle.cert_text.specs.declared.outcome.Outcome.{Outcome}
use Rattle.verdicts.specs.VerdictLaws.{AreOneOutcome}
use Rattle.calls.specs.Files.{Text}
use Rattle.calls.specs.declared.status.Status.{Status}
use Rattle.top_call.specs.Named.{Named}

-- one text, but for which derivation of so many steps a verdict has, and which common term of least size it tells
pub data AreOneText : Text → Text → Type 0 where
  same : {text : Text} → AreOneText text text
  chosen : {o p : Outcome} (spec : Spec) → AreOneOutcome o p → AreOneText (certificate_text spec o) (certificate_text spec p)

-- the words and the contents of the files name one status at most, and with it one text but for that choice
abbrev pub OneIsNamed : Type 0
OneIsNamed = (words : List Text) (given : Text → Option Text) (text other : Text) (s t : Status) → Named words given text s → Named words given other t → (s ≡ t) × AreOneText text other

-- What the words and the contents of the files name: a text and its status. This project's own.
use Rattle.std.specs.Prelude.{◌≡◌, ◌⊎◌, ◌≤◌, ◌<◌, List, [], ◌++◌, Option, Some, None, if◌then◌else◌, length, codes}
use Rattle.std.specs.Str.{bytes_eq}
use Rattle.std.specs.Io.KnownBytes.{Appends}
use Rattle.ta_core.specs.declared.spec.Spec.{Spec}
use Rattle.spec_text.specs.declared.fault.SpecFault.{SpecFault}
use Rattle.spec_text.specs.SpecText.{SpecText}
use Rattle.spec_text.specs.Faults.{SpecFaultAt}
use Rattle.command_words.specs.Words.{Command, complete, check, command_of}
use Rattle.cert_text.specs.Certificates.{CertificateReads}
use Rattle.cert_text.specs.Faults.{CertificateFaultAt}
use Rattle.cert_text.specs.declared.certificate.Certificate.{Certificate}
use Rattle.cert_text.specs.declared.certificate.Certificate.TheVariants as certificate
use Rattle.cert_text.specs.declared.certificate.CertFault.{CertFault}
use Rattle.verdicts.specs.Shown.{IsShown}
use Rattle.calls.specs.AnswerText.{usage, line}
use Rattle.calls.specs.Checks.{Checks}
use Rattle.calls.specs.Contents.{spec_limit, cert_limit}
use Rattle.calls.specs.FaultText.{fault_line, cert_fault_line}
use Rattle.calls.specs.Files.{Text}
use Rattle.calls.specs.declared.status.Status.{Status}
use Rattle.calls.specs.declared.status.Status.TheVariants.{Accepted, Rejected, BadWords, BadSpec, BadCert, TooLong, Memory}
use Rattle.top_call.specs.Calls.{SaysVerdict}

-- the line for a certificate that shows what it claims
abbrev pub accepted_text : Certificate → Text
accepted_text (certificate.Unreachable rounds precise A h) = codes "Accepted unreachable\n"
accepted_text (certificate.Reachable d) = codes "Accepted reachable\n"

-- by the bytes of a certificate's file, beside a specification
pub data NamedByCertificate (spec : Spec) (file bytes : Text) : Text → Status → Type 0 where
  too_long : cert_limit < length bytes → NamedByCertificate spec file bytes (line (codes "Too long " ++ file)) TooLong
  bad : {fault : CertFault} → length bytes ≤ cert_limit → ((c : Certificate) → CertificateReads spec bytes c → ⊥) → CertificateFaultAt spec bytes fault → NamedByCertificate spec file bytes (cert_fault_line fault) BadCert
  accepted : {c : Certificate} → length bytes ≤ cert_limit → CertificateReads spec bytes c → IsShown spec c → NamedByCertificate spec file bytes (accepted_text c) Accepted
  rejected : {c : Certificate} {text : Text} → length bytes ≤ cert_limit → CertificateReads spec bytes c → Checks spec c text Rejected → NamedByCertificate spec file bytes text Rejected

-- by the bytes of a specification's file, and further by the specification that they spell
pub data NamedBySpec (Further : Spec → Text → Status → Type 0) (file bytes : Text) : Text → Status → Type 0 where
  too_long : spec_limit < length bytes → NamedBySpec Further file bytes (line (codes "Too long " ++ file)) TooLong
  bad : {fault : SpecFault} → length bytes ≤ spec_limit → ((spec : Spec) → SpecText bytes spec → ⊥) → SpecFaultAt bytes fault → NamedBySpec Further file bytes (fault_line fault) BadSpec
  good : {spec : Spec} {text : Text} {status : Status} → length bytes ≤ spec_limit → SpecText bytes spec → Further spec text status → NamedBySpec Further file bytes text status

-- by the bytes of a file, where they are told
abbrev pub NamedByFile : (Text → Text → Status → Type 0) → Option Text → Text → Status → Type 0
NamedByFile Further told text status = (bytes : Text) × (told ≡ Some bytes) × Further bytes text status

-- what the second file has once the first was read to its end: nothing where they are one file
abbrev pub second_of : (Text → Option Text) → Text → Text → Option Text
second_of given first second = if bytes_eq second first then Some [] else given second

abbrev pub NamedByCommand : (Text → Option Text) → Command → Text → Status → Type 0
NamedByCommand given (complete file limits) = NamedByFile (NamedBySpec (λ spec. SaysVerdict spec limits) file) (given file)
NamedByCommand given (check spec cert) = NamedByFile (NamedBySpec (λ s. NamedByFile (NamedByCertificate s cert) (second_of given spec cert)) spec) (given spec)

pub data Named (words : List Text) (given : Text → Option Text) : Text → Status → Type 0 where
  bad_words : command_of words ≡ None → Named words given usage BadWords
  by_command : {text : Text} {status : Status} (command : Command) → command_of words ≡ Some command → NamedByCommand given command text status → Named words given text status

-- the answer is this status, and a text that is named with it was written; or memory ran out
abbrev pub AnswersNamed : List Text → (Text → Option Text) → Option Text → Option Text → Status → Status → Type 0
AnswersNamed words given old new status answer = (answer ≡ Memory) ⊎ ((answer ≡ status) × ((text : Text) × Named words given text status × Appends old new text))

-- What the bytes of a file are. This project's own.
use Rattle.std.specs.Prelude.{ℕ, []}
use Rattle.ta_core.specs.declared.spec.Spec.{Spec}
use Rattle.spec_text.specs.declared.fault.SpecFault.{SpecFault}
use Rattle.spec_text.specs.SpecText.{SpecText}
use Rattle.spec_text.specs.Faults.{SpecFaultAt}
use Rattle.cert_text.specs.declared.certificate.Certificate.{Certificate}
use Rattle.cert_text.specs.declared.certificate.CertFault.{CertFault}
use Rattle.cert_text.specs.Certificates.{CertificateReads}
use Rattle.cert_text.specs.Faults.{CertificateFaultAt}
use Rattle.calls.specs.FaultText.{fault_line, cert_fault_line}
use Rattle.calls.specs.Files.{Text, Told}
use Rattle.calls.specs.declared.status.Status.{Status}
use Rattle.calls.specs.declared.status.Status.TheVariants.{BadSpec, BadCert, Memory}

-- the largest number of bytes of a specification
abbrev pub spec_limit : ℕ
spec_limit = 1048576

-- the largest number of bytes of a certificate
abbrev pub cert_limit : ℕ
cert_limit = 67108864

-- the bytes are no specification, and their first fault is told; or they are one, which decides further; or memory runs out
pub data OfSpec (bytes : Text) (Next : Spec → Told → Told → Text → Status → Type 0) : Told → Told → Text → Status → Type 0 where
  bad : {a : Told} {fault : SpecFault} → ((spec : Spec) → SpecText bytes spec → ⊥) → SpecFaultAt bytes fault → OfSpec bytes Next a a (fault_line fault) BadSpec
  memory : {a : Told} → OfSpec bytes Next a a [] Memory
  good : {a b : Told} {text : Text} {status : Status} (spec : Spec) → SpecText bytes spec → Next spec a b text status → OfSpec bytes Next a b text status

-- the same of a certificate beside a specification
pub data OfCert (spec : Spec) (bytes : Text) (Next : Certificate → Told → Told → Text → Status → Type 0) : Told → Told → Text → Status → Type 0 where
  bad : {a : Told} {fault : CertFault} → ((c : Certificate) → CertificateReads spec bytes c → ⊥) → CertificateFaultAt spec bytes fault → OfCert spec bytes Next a a (cert_fault_line fault) BadCert
  memory : {a : Told} → OfCert spec bytes Next a a [] Memory
  good : {a b : Told} {text : Text} {status : Status} (c : Certificate) → CertificateReads spec bytes c → Next c a b text status → OfCert spec bytes Next a b text status

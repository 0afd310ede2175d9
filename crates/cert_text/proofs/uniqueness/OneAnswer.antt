-- The certificate of a text, and its first fault, name what the reader answers.
use Rattle.std.proofs.Common.{◌≡◌, Result, Ok, Err, ap, refl, ◌⊎◌, inl, inr}
use Rattle.ranked_terms.specs.SignatureRules.{IsSignature}
use Rattle.ranked_terms.specs.TextLaws.{TextsDiffer}
use Rattle.ranked_terms.specs.Texts.{Text}
use Rattle.ta_core.specs.declared.spec.Spec.{Spec}
use Rattle.cert_text.specs.declared.certificate.Certificate.{Certificate}
use Rattle.cert_text.specs.declared.certificate.CertFault.{CertFault}
use Rattle.cert_text.specs.declared.certificate.CertError.{CertError}
use Rattle.cert_text.specs.declared.certificate.CertError.TheVariants.{Fault, Memory}
use Rattle.cert_text.specs.Certificates.{CertificateReads}
use Rattle.cert_text.specs.Faults.{CertificateFaultAt}
use Rattle.cert_text.proofs.uniqueness.OneCertificate.{one_certificate}
use Rattle.cert_text.proofs.uniqueness.NoFault.{reads_without_fault}
use Rattle.cert_text.proofs.uniqueness.OneFault.{one_fault}

abbrev Answer : Type 0
Answer = Result Certificate CertError

abbrev ok : Certificate → Answer
ok c = Ok c

abbrev err : CertError → Answer
err e = Err e

pub that_ok : TextsDiffer → (spec : Spec) (bytes : Text) (c : Certificate) → IsSignature spec.signature → CertificateReads spec bytes c → (d : Certificate) → CertificateReads spec bytes d → (ok c ≡ ok d) ⊎ (ok c ≡ err Memory)
that_ok differ spec bytes c valid a d b = inl (ap ok (one_certificate differ spec bytes c d valid a b))

pub first_ok : (spec : Spec) (bytes : Text) (c : Certificate) → IsSignature spec.signature → CertificateReads spec bytes c → (f : CertFault) → CertificateFaultAt spec bytes f → (ok c ≡ err (Fault f)) ⊎ (ok c ≡ err Memory)
first_ok spec bytes c valid a f b = absurd (reads_without_fault spec bytes c f valid a b)

pub that_err : (spec : Spec) (bytes : Text) (e : CertError) → IsSignature spec.signature → ((f : CertFault) → e ≡ Fault f → CertificateFaultAt spec bytes f) → (d : Certificate) → CertificateReads spec bytes d → (err e ≡ ok d) ⊎ (err e ≡ err Memory)
that_err spec bytes (Fault f) valid bad d b = absurd (reads_without_fault spec bytes d f valid b (bad f refl))
that_err spec bytes Memory valid bad d b = inr refl

pub first_err : (spec : Spec) (bytes : Text) (e : CertError) → ((f : CertFault) → e ≡ Fault f → CertificateFaultAt spec bytes f) → (f : CertFault) → CertificateFaultAt spec bytes f → (err e ≡ err (Fault f)) ⊎ (err e ≡ err Memory)
first_err spec bytes (Fault g) bad f b = inl (ap (λ x. err (Fault x)) (one_fault spec bytes g f (bad g refl) b))
first_err spec bytes Memory bad f b = inr refl

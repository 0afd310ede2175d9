-- What stands behind the verdict, as it was taken. These serve private contracts alone.
use Rattle.std.specs.Prelude.{◌≡◌, ℕ, ◌+◌, List, ◌∷◌, length, Some}
use Rattle.ranked_terms.specs.Texts.{Text}
use Rattle.ta_core.specs.declared.spec.Spec.{Spec}
use Rattle.cert_text.specs.declared.certificate.Certificate.{Certificate}
use Rattle.cert_text.specs.declared.certificate.CertFault.{CertFault}
use Rattle.cert_text.specs.Lines.{Line, head, end}
use Rattle.cert_text.specs.Certificates.{certificate_lines, IsWithin}
use Rattle.cert_text.specs.Faults.{Known, Takes}
use Rattle.cert_text.specs.Taking.{FaultFrom}

-- the lines of the certificate behind its verdict were taken, to its end
pub record IsTakenBehind (spec : Spec) (verdict : Line) (old : Text) (count : ℕ) (new : Text) (number : ℕ) (c : Certificate) : Type 0 where
  pub lines : List Line
  pub are : certificate_lines spec.signature c ≡ head ∷ verdict ∷ lines
  pub after : Known → Known
  pub takes : (k : Known) → k.before ≡ Some verdict → k.steps ≡ 0 → Takes spec k old lines (after k) new
  pub ends : (k : Known) → (after k).before ≡ Some end
  pub number_is : number ≡ count + length lines
  pub within : IsWithin spec c

-- the fault is told behind the verdict
abbrev pub IsFaultBehind : Spec → Line → Text → ℕ → CertFault → Type 0
IsFaultBehind spec verdict old count f = (k : Known) → k.before ≡ Some verdict → k.steps ≡ 0 → FaultFrom spec k old count f

-- What a test has told.
use Rattle.std.proofs.Common.{◌≡◌, ℕ, Bool, true, false, true≢false, sym, ap, subst, ◌∙◌}
use Rattle.std.specs.Prelude.{IsTrue, ◌↔◌}
use Rattle.cert_text.specs.declared.certificate.CertKind.{CertKind}
use Rattle.cert_text.specs.declared.certificate.CertFault.{CertFault}

pub is_not : (b : Bool) (P : Type 0) → b ≡ false → (IsTrue b ↔ P) → P → ⊥
is_not b P is tells p = true≢false (sym (tells.1 p) ∙ is)

pub is_so : (b : Bool) (P : Type 0) → b ≡ true → (IsTrue b ↔ P) → P
is_so b P is tells = tells.0 is

-- a fault is of this line and kind
pub told_fault : (P : CertKind → Type 0) (line : ℕ) (kd : CertKind) (f : CertFault) → record { kind = kd; line = line } ≡ f → P kd → (f.line ≡ line) × P f.kind
told_fault P line kd f same p = (sym (ap (λ (x : CertFault). x.line) same), subst P (ap (λ (x : CertFault). x.kind) same) p)

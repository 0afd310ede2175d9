-- What is claimed of certificates' texts (this project's own format).
use Rattle.std.specs.Prelude.{◌≡◌, ℕ, ◌==◌, false, List, ◌∷◌, ◌++◌, map, All, Option}
use Rattle.ranked_terms.specs.SignatureRules.{IsSignature}
use Rattle.ta_core.specs.declared.spec.Spec.{Spec}
use Rattle.cert_text.specs.declared.certificate.Certificate.{Certificate}
use Rattle.cert_text.specs.declared.certificate.CertFault.{CertFault}
use Rattle.ranked_terms.specs.Words.{IsWord}
use Rattle.ranked_terms.specs.Texts.{Text, number_word, with_args}
use Rattle.cert_text.specs.Words.{line_text, position_word}
use Rattle.cert_text.specs.Lines.{Line, words_of, IsFormed, Follows}
use Rattle.cert_text.specs.Certificates.{CertificateReads}
use Rattle.cert_text.specs.Faults.{CertificateFaultAt, Known, Begins}

-- two different certificates have different texts, where no two symbols have one name
abbrev pub OneCertificate : Type 0
OneCertificate = (spec : Spec) (bytes : Text) (c d : Certificate) → IsSignature spec.signature → CertificateReads spec bytes c → CertificateReads spec bytes d → c ≡ d

-- a text has one first fault at most
abbrev pub OneFault : Type 0
OneFault = (spec : Spec) (bytes : Text) (f g : CertFault) → CertificateFaultAt spec bytes f → CertificateFaultAt spec bytes g → f ≡ g

-- and where it is a certificate, it has none
abbrev pub ReadsWithoutFault : Type 0
ReadsWithoutFault = (spec : Spec) (bytes : Text) (c : Certificate) (f : CertFault) → IsSignature spec.signature → CertificateReads spec bytes c → CertificateFaultAt spec bytes f → ⊥

-- a line of numbers is read back: no other words of numbers begin the same text
abbrev pub NumbersReadBack : Type 0
NumbersReadBack = (word : Text) (ms ns : List ℕ) (x y : Text) → All (λ c. ((c == 32) ≡ false) × ((c == 10) ≡ false)) word
    → line_text (word ∷ map number_word ms) ++ x ≡ line_text (word ∷ map number_word ns) ++ y → (ms ≡ ns) × (x ≡ y)

-- no two applications, and no two positions, are one word
pub record WordsOnce : Type 0 where
  pub applied : (f g : Text) (ps qs : List ℕ) → IsWord f → IsWord g → with_args f (map number_word ps) ≡ with_args g (map number_word qs) → (f ≡ g) × (ps ≡ qs)
  pub position : (at to : List ℕ) → position_word at ≡ position_word to → at ≡ to

-- behind one line, no two lines have the same words
abbrev pub LinesDiffer : Type 0
LinesDiffer = (k : Option Line) (l m : Line) → Follows k l → Follows k m → IsFormed l → IsFormed m → words_of l ≡ words_of m → l ≡ m

-- a text begins with one line at most that may stand there
abbrev pub BeginsOnce : Type 0
BeginsOnce = (k : Known) (bytes : Text) (l m : Line) (x y : Text) → Begins k bytes l x → Begins k bytes m y → (l ≡ m) × (x ≡ y)

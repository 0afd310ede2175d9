-- How a command ends before its own answer.
use Rattle.std.proofs.Common.{◌≡◌, ◌⊎◌, inl, inr, ℕ, ◌+◌, ◌≤◌, Bool, true, false, [], ◌++◌, length, Result, Ok, Err, String, string_bytes, Decides, refl, subst, sym, arith}
use Rattle.std.proofs.lemmas.Bool.{false≢true}
use Rattle.std.proofs.lemmas.Slice.Eq.{bytes_eq-Decides}
use Rattle.std.specs.Prelude.{codes}
use Rattle.std.specs.Str.{bytes_eq}
use Rattle.std.specs.Io.KnownBytes.{Consumes, IsAtEnd}
use Rattle.std.specs.Result.{IfOk}
use Rattle.std.specs.Global.{Global}
use Rattle.std.specs.declared.alloc.AllocError.{AllocError}
use Rattle.tim_io.specs.Causes.{Rose}
use Rattle.tim_io.specs.Shelves.{OthersStay}
use Rattle.tim_io.specs.Whole.{TookAtMost, TookJust}
use Rattle.ta_core.specs.declared.spec.Spec.{Spec}
use Rattle.spec_text.specs.declared.fault.SpecFault.{SpecFault}
use Rattle.spec_text.specs.SpecText.{SpecText}
use Rattle.spec_text.specs.Faults.{SpecFaultAt}
use Rattle.cert_text.specs.declared.certificate.Certificate.{Certificate}
use Rattle.cert_text.specs.declared.certificate.CertFault.{CertFault}
use Rattle.cert_text.specs.declared.certificate.CertError.{CertError}
use Rattle.cert_text.specs.declared.certificate.CertError.TheVariants as error
use Rattle.cert_text.specs.Certificates.{CertificateReads}
use Rattle.cert_text.specs.Faults.{CertificateFaultAt}
use Rattle.calls.specs.AnswerText.{line}
use Rattle.calls.specs.FaultText.{fault_line, cert_fault_line}
use Rattle.calls.specs.Contents.{OfSpec, OfCert, spec_limit, cert_limit}
use Rattle.calls.specs.Files.{Text, Told, StayBut, IsRead, OfFile, Never}
use Rattle.calls.specs.Endings.{Ends, ending_of}
use Rattle.calls.specs.declared.reading.Ending.{Ending}
use Rattle.calls.specs.declared.reading.Ending.TheVariants as ending
use Rattle.calls.specs.declared.status.Status.{Status}
use Rattle.calls.specs.declared.status.Status.TheVariants.{TooLong, ReadFault, BadSpec, BadCert, Memory}

-- ---- what was read

-- no count has fallen
later_case : (name any : Text) (a b : Told) → a.faults name ≤ b.faults name → OthersStay a.faults b.faults name → (r : Bool) → Decides r (any ≡ name) → a.faults any ≤ b.faults any
later_case name any a b later others true is = subst (λ n. a.faults n ≤ b.faults n) (sym (is.0 refl)) later
later_case name any a b later others false is = let same : b.faults any ≡ a.faults any = others any (λ e. absurd (false≢true (is.1 e))) in omega (arith, same)

pub read_whole : (name : Text) (limit : ℕ) (a b : Told) (bytes : Text) → Consumes (a.left name) (b.left name) bytes × IsAtEnd (b.left name) × (length bytes ≤ limit) → OthersStay a.left b.left name
    → OthersStay a.faults b.faults name → a.faults name ≤ b.faults name → IsRead name limit a b bytes
read_whole name limit a b bytes reads left faults later = record {
  few = reads.2;
  taken = reads.0;
  ended = reads.1;
  others = record { left = left; faults = faults };
  later = λ any. later_case name any a b later faults (bytes_eq any name) (bytes_eq-Decides any name);
}

-- ---- how a command ends

module _ (Says : Told → Told → Text → Status → Type 0) (a b : Told) where
  pub ends_told : (status : Status) (r : Result (String Global) AllocError) (text : Text) (e : Ending) → e ≡ ending_of status r → IfOk r (λ t. string_bytes t ≡ text) → Says a b text status → Says a b [] Memory → Ends Says a b e
  ends_told status (Ok t) text e is same says memory = subst (Ends Says a b) (sym is) (subst (λ x. Says a b x status) (sym same) says)
  ends_told status (Err error) text e is same says memory = subst (Ends Says a b) (sym is) memory

module _ (name : Text) (limit : ℕ) (Next : Text → Told → Told → Text → Status → Type 0) (a b : Told) (left : OthersStay a.left b.left name) (faults : OthersStay a.faults b.faults name) where
  others : StayBut name a b
  others = record { left = left; faults = faults }

  pub no_memory : TookAtMost (limit + 1) (a.left name) (b.left name) → OfFile name limit Next a b [] Memory
  no_memory took = OfFile.memory took others

  pub failed : (r : Result (String Global) AllocError) (e : Ending) → e ≡ ending_of ReadFault r → IfOk r (λ t. string_bytes t ≡ line (codes "Cannot read " ++ name)) → Rose (a.faults name) (b.faults name) →
      TookAtMost limit (a.left name) (b.left name) → Ends (OfFile name limit Next) a b e
  failed r e is same rose took =
      ends_told (OfFile name limit Next) a b ReadFault r (line (codes "Cannot read " ++ name)) e is same (OfFile.fault rose took others)
      (no_memory (took.0, took.1, omega (arith, took.2)))

  pub too_long : (r : Result (String Global) AllocError) (e : Ending) → e ≡ ending_of TooLong r → IfOk r (λ t. string_bytes t ≡ line (codes "Too long " ++ name)) →
      TookJust (limit + 1) (a.left name) (b.left name) → Ends (OfFile name limit Next) a b e
  too_long r e is same took =
      ends_told (OfFile name limit Next) a b TooLong r (line (codes "Too long " ++ name)) e is same (OfFile.too_long took others)
      (no_memory (took.0, took.1, omega (arith, took.2)))

-- ---- from one way to go on to another

pub ends_map : (P Q : Told → Told → Text → Status → Type 0) (a b c : Told) (e : Ending) → ((text : Text) (status : Status) → P b c text status → Q a c text status) → Ends P b c e → Ends Q a c e
ends_map P Q a b c (ending.Told status text) widen h = widen text status h
ends_map P Q a b c ending.Memory widen h = widen [] Memory h

module _ (name : Text) (limit : ℕ) (N M : Text → Told → Told → Text → Status → Type 0) (widen : (bytes : Text) (a b : Told) (text : Text) (status : Status) → N bytes a b text status → M bytes a b text status) where
  pub of_file : (a b : Told) (text : Text) (status : Status) → OfFile name limit N a b text status → OfFile name limit M a b text status
  of_file a b text status (OfFile.too_long took stay) = OfFile.too_long took stay
  of_file a b text status (OfFile.fault rose took stay) = OfFile.fault rose took stay
  of_file a b text status (OfFile.memory took stay) = OfFile.memory took stay
  of_file a b text status (OfFile.read bytes is next) = OfFile.read bytes is (widen bytes _ b text status next)

pub of_spec : (N : Spec → Told → Told → Text → Status → Type 0) (bytes : Text) (a b : Told) (text : Text) (status : Status) → OfSpec bytes (λ spec. Never) a b text status → OfSpec bytes N a b text status
of_spec N bytes a b text status (OfSpec.bad none first) = OfSpec.bad none first
of_spec N bytes a b text status OfSpec.memory = OfSpec.memory
of_spec N bytes a b text status (OfSpec.good spec spelled next) = absurd next

pub of_cert : (spec : Spec) (N : Certificate → Told → Told → Text → Status → Type 0) (bytes : Text) (a b : Told) (text : Text) (status : Status) → OfCert spec bytes (λ c. Never) a b text status
    → OfCert spec bytes N a b text status
of_cert spec N bytes a b text status (OfCert.bad none first) = OfCert.bad none first
of_cert spec N bytes a b text status OfCert.memory = OfCert.memory
of_cert spec N bytes a b text status (OfCert.good c reads next) = absurd next

-- what ended with the file ends whatever goes on with its bytes
pub without_file : (name : Text) (limit : ℕ) (M : Text → Told → Told → Text → Status → Type 0) (a b : Told) (e : Ending) → Ends (OfFile name limit (λ bytes. Never)) a b e → Ends (OfFile name limit M) a b e
without_file name limit M a b e h = ends_map (OfFile name limit (λ bytes. Never)) (OfFile name limit M) a a b e (of_file name limit (λ bytes. Never) M (λ bytes c d text status no. absurd no) a b) h

-- ---- what is said of a specification's bytes, and of a certificate's

module _ (name bytes : Text) (a b : Told) (is : IsRead name spec_limit a b bytes) where
  abbrev SpecAlone : Told → Told → Text → Status → Type 0
  SpecAlone = OfFile name spec_limit (λ bytes. OfSpec bytes (λ spec. Never))

  pub spec_memory : SpecAlone a b [] Memory
  spec_memory = OfFile.read bytes is OfSpec.memory

  pub bad_spec : (fault : SpecFault) → ((spec : Spec) → SpecText bytes spec → ⊥) → SpecFaultAt bytes fault → (r : Result (String Global) AllocError) (e : Ending) → e ≡ ending_of BadSpec r
      → IfOk r (λ t. string_bytes t ≡ fault_line fault) → Ends SpecAlone a b e
  bad_spec fault none first r e ends same = ends_told SpecAlone a b BadSpec r (fault_line fault) e ends same (OfFile.read bytes is (OfSpec.bad none first)) spec_memory

-- a fault is no certificate, and no want of memory
pub not_read : (r : Result Certificate CertError) (fault : CertFault) (c : Certificate) → r ≡ Err (error.Fault fault) → (r ≡ Ok c) ⊎ (r ≡ Err error.Memory) → ⊥
not_read r fault c met (inl read) = let no : ⊥ = cc in no
not_read r fault c met (inr memory) = let no : ⊥ = cc in no

module _ (spec : Spec) (name bytes : Text) (a b : Told) (is : IsRead name cert_limit a b bytes) where
  abbrev CertAlone : Told → Told → Text → Status → Type 0
  CertAlone = OfFile name cert_limit (λ bytes. OfCert spec bytes (λ c. Never))

  pub cert_memory : CertAlone a b [] Memory
  cert_memory = OfFile.read bytes is OfCert.memory

  pub bad_cert : (fault : CertFault) → ((c : Certificate) → CertificateReads spec bytes c → ⊥) → CertificateFaultAt spec bytes fault → (r : Result (String Global) AllocError) (e : Ending) → e ≡ ending_of BadCert r
      → IfOk r (λ t. string_bytes t ≡ cert_fault_line fault) → Ends CertAlone a b e
  bad_cert fault none first r e ends same = ends_told CertAlone a b BadCert r (cert_fault_line fault) e ends same (OfFile.read bytes is (OfCert.bad none first)) cert_memory

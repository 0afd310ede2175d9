-- Which statuses an answer has, and whose count a fault has raised.
use Rattle.std.proofs.Common.{◌≡◌, ℕ, ◌+◌, ◌≤◌, List, [], ◌∷◌, Option, Some, refl, subst, arith}
use Rattle.tim_io.specs.Causes.{Rose}
use Rattle.ta_core.specs.TreeAutomaton.{TreeAutomaton}
use Rattle.ta_core.specs.declared.spec.Spec.{Spec}
use Rattle.trs_rules.specs.declared.derivation.Derivation.{Derivation}
use Rattle.cert_text.specs.declared.certificate.Certificate.{Certificate}
use Rattle.cert_text.specs.declared.certificate.Certificate.TheVariants as certificate
use Rattle.cert_text.specs.declared.outcome.Outcome.{Outcome}
use Rattle.cert_text.specs.declared.outcome.Outcome.TheVariants as outcome
use Rattle.command_words.specs.Words.{Limits, complete, check, command_of}
use Rattle.calls.specs.Checks.{Checks, ChecksAutomaton, ChecksDerivation, ChecksFiles}
use Rattle.calls.specs.Contents.{OfSpec, OfCert, cert_limit, spec_limit}
use Rattle.calls.specs.Files.{Text, Told, IsRead, OfFile, Aside}
use Rattle.calls.specs.declared.status.Status.{Status}
use Rattle.calls.specs.declared.status.Status.TheVariants.{Unreachable, Reachable, Undecided, Accepted, Rejected, BadSpec, BadCert, TooLong, ReadFault, WriteFault, Memory}
use Rattle.top_call.specs.Calls.{SaysVerdict, CompletesFile, Replies, IsFileOf, status_of}
use Rattle.top_call.specs.Writing.{Ran}

-- ---- a fact of each status that may be said

-- of a certificate's bytes
module _ (P : Status → Type 0) (memory : P Memory) (bad : P BadCert) (accepted : P Accepted) (rejected : P Rejected) (spec : Spec) where
  by_automaton : (A : TreeAutomaton) (h : List ℕ) (text : Text) (status : Status) → ChecksAutomaton spec A h text status → P status
  by_automaton A h text status (ChecksAutomaton.accepted shown) = accepted
  by_automaton A h text status (ChecksAutomaton.rejected not why answers) = rejected

  by_derivation : (d : Derivation) (text : Text) (status : Status) → ChecksDerivation spec d text status → P status
  by_derivation d text status (ChecksDerivation.accepted shown) = accepted
  by_derivation d text status (ChecksDerivation.rejected not why answers) = rejected

  checked : (c : Certificate) (text : Text) (status : Status) → Checks spec c text status → P status
  checked (certificate.Unreachable i precise A h) text status says = by_automaton A h text status says
  checked (certificate.Reachable d) text status says = by_derivation d text status says

  aside : (c : Certificate) (a b : Told) (text : Text) (status : Status) → Aside (Checks spec c) a b text status → P status
  aside c a b text status (Aside.says says) = checked c text status says
  aside c a b text status Aside.memory = memory

  pub of_certificate : (bytes : Text) (a b : Told) (text : Text) (status : Status) → OfCert spec bytes (λ c. Aside (Checks spec c)) a b text status → P status
  of_certificate bytes a b text status (OfCert.bad none first) = bad
  of_certificate bytes a b text status OfCert.memory = memory
  of_certificate bytes a b text status (OfCert.good c reads next) = aside c a b text status next

-- of a specification's bytes
module _ (P : Status → Type 0) (memory : P Memory) (bad : P BadSpec) (Next : Spec → Told → Told → Text → Status → Type 0) (each : (spec : Spec) (a b : Told) (text : Text) (status : Status) → Next spec a b text status → P status) where
  pub of_spec : (bytes : Text) (a b : Told) (text : Text) (status : Status) → OfSpec bytes Next a b text status → P status
  of_spec bytes a b text status (OfSpec.bad none first) = bad
  of_spec bytes a b text status OfSpec.memory = memory
  of_spec bytes a b text status (OfSpec.good spec spelled next) = each spec a b text status next

-- of a file
module _ (P : Status → Type 0) (memory : P Memory) (too_long : P TooLong) (fault : P ReadFault) (file : Text) (limit : ℕ) (Next : Text → Told → Told → Text → Status → Type 0)
    (each : (bytes : Text) (a b : Told) (text : Text) (status : Status) → Next bytes a b text status → P status) where
  pub of_file : (a b : Told) (text : Text) (status : Status) → OfFile file limit Next a b text status → P status
  of_file a b text status (OfFile.too_long took stay) = too_long
  of_file a b text status (OfFile.fault rose took stay) = fault
  of_file a b text status (OfFile.memory took stay) = memory
  of_file a b text status (OfFile.read bytes is next) = each bytes _ b text status next

-- of a verdict
module _ (P : Status → Type 0) (memory : P Memory) (each : (o : Outcome) → P (status_of o)) (spec : Spec) (limits : Limits) where
  pub of_verdict : (a b : Told) (text : Text) (status : Status) → Aside (SaysVerdict spec limits) a b text status → P status
  of_verdict a b text status (Aside.says (SaysVerdict.verdict o completes)) = each o
  of_verdict a b text status Aside.memory = memory

-- what is said of a certificate's file
abbrev pub Second : Text → Spec → Told → Told → Text → Status → Type 0
Second cert spec = OfFile cert cert_limit (λ others. OfCert spec others (λ c. Aside (Checks spec c)))

-- ---- no answer of `check` is a verdict, or a fault of the output

abbrev pub IsOfCheck : Status → Type 0
IsOfCheck Unreachable = ⊥
IsOfCheck Reachable = ⊥
IsOfCheck Undecided = ⊥
IsOfCheck WriteFault = ⊥
IsOfCheck _ = Unit {0}

of_second : (cert : Text) (spec : Spec) (a b : Told) (text : Text) (status : Status) → Second cert spec a b text status → IsOfCheck status
of_second cert spec = of_file IsOfCheck tt tt tt cert cert_limit (λ others. OfCert spec others (λ c. Aside (Checks spec c))) (of_certificate IsOfCheck tt tt tt tt spec)

pub of_check : (spec cert : Text) (a b : Told) (text : Text) (status : Status) → ChecksFiles spec cert a b text status → IsOfCheck status
of_check spec cert = of_file IsOfCheck tt tt tt spec spec_limit (λ bytes. OfSpec bytes (Second cert)) (of_spec IsOfCheck tt tt (Second cert) (of_second cert))

-- ---- no answer is a fault of the output

abbrev IsSaid : Status → Type 0
IsSaid WriteFault = ⊥
IsSaid _ = Unit {0}

said_verdict : (o : Outcome) → IsSaid (status_of o)
said_verdict (outcome.Unreachable i precise A h) = tt
said_verdict (outcome.Reachable d) = tt
said_verdict (outcome.Undecided why search) = tt

of_completed : (file : Text) (limits : Limits) (a b : Told) (text : Text) (status : Status) → CompletesFile file limits a b text status → IsSaid status
of_completed file limits = of_file IsSaid tt tt tt file spec_limit (λ bytes. OfSpec bytes (λ spec. Aside (SaysVerdict spec limits)))
    (of_spec IsSaid tt tt (λ spec. Aside (SaysVerdict spec limits)) (λ spec. of_verdict IsSaid tt said_verdict spec limits))

no_write_fault : (words : List Text) (a b : Told) (text : Text) (status : Status) → Replies words a b text status → status ≡ WriteFault → ⊥
no_write_fault words a b text status (Replies.bad_words none) is = let no : ⊥ = cc in no
no_write_fault words a b text status (Replies.memory names) is = let no : ⊥ = cc in no
no_write_fault words a b text status (Replies.does (complete file limits) named says) is = subst IsSaid is (of_completed file limits a b text status says)
no_write_fault words a b text status (Replies.does (check spec cert) named says) is = subst IsOfCheck is (of_check spec cert a b text status says)

-- a run that answers it has met one
pub write_fault : (words : List Text) (a b : Told) (failed : Type 0) (old new : Option Text) (status : Status) → Ran words a b failed old new status → status ≡ WriteFault → failed
write_fault words a b failed old new status (Ran.whole replies appends) is = absurd (no_write_fault words a b _ status replies is)
write_fault words a b failed old new status (Ran.part it replies appends) is = it

-- ---- a fault of reading is one of a file

-- a count that has risen since a later moment has risen
pub rose_before : (a b c : ℕ) → a ≤ b → Rose b c → Rose a c
rose_before a b c later rose = omega (arith, later, rose)

-- the count of a file of the words has risen
abbrev pub HasRisen : List Text → Told → Told → Type 0
HasRisen words a b = (name : Text) × IsFileOf words name × Rose (a.faults name) (b.faults name)

abbrev NoFault : Status → Type 0
NoFault status = status ≡ ReadFault → ⊥

no_fault_of : (o : Outcome) → NoFault (status_of o)
no_fault_of (outcome.Unreachable i precise A h) is = let no : ⊥ = cc in no
no_fault_of (outcome.Reachable d) is = let no : ⊥ = cc in no
no_fault_of (outcome.Undecided why search) is = let no : ⊥ = cc in no

no_fault_memory : NoFault Memory
no_fault_memory is = let no : ⊥ = cc in no

no_fault_bad_spec : NoFault BadSpec
no_fault_bad_spec is = let no : ⊥ = cc in no

module _ (words : List Text) (a b : Told) where
  module _ (file : Text) (limits : Limits) (is : command_of words ≡ Some (complete file limits)) where
    of_file_completed : (text : Text) (status : Status) → CompletesFile file limits a b text status → status ≡ ReadFault → HasRisen words a b
    of_file_completed text status (OfFile.too_long took stay) fault = let no : ⊥ = cc in absurd no
    of_file_completed text status (OfFile.fault rose took stay) fault = (file, record { command = complete file limits; is = is; among = (0, omega (arith), refl) }, rose)
    of_file_completed text status (OfFile.memory took stay) fault = absurd (no_fault_memory fault)
    of_file_completed text status (OfFile.read bytes read next) fault =
        absurd (of_spec NoFault no_fault_memory no_fault_bad_spec (λ spec. Aside (SaysVerdict spec limits)) (λ spec. of_verdict NoFault no_fault_memory no_fault_of spec limits) bytes _ b text status next fault)

  module _ (spec cert : Text) (is : command_of words ≡ Some (check spec cert)) where
    of_second_checked : (mid : Told) (bytes : Text) → IsRead spec spec_limit a mid bytes → (s : Spec) (text : Text) (status : Status) → Second cert s mid b text status → status ≡ ReadFault → HasRisen words a b
    of_second_checked mid bytes read s text status (OfFile.too_long took stay) fault = let no : ⊥ = cc in absurd no
    of_second_checked mid bytes read s text status (OfFile.fault rose took stay) fault =
        (cert, record { command = check spec cert; is = is; among = (1, omega (arith), refl) }, rose_before (a.faults cert) (mid.faults cert) (b.faults cert) (read.later cert) rose)
    of_second_checked mid bytes read s text status (OfFile.memory took stay) fault = absurd (no_fault_memory fault)
    of_second_checked mid bytes read s text status (OfFile.read others again next) fault =
        absurd (of_certificate NoFault no_fault_memory (λ no. let it : ⊥ = cc in it) (λ no. let it : ⊥ = cc in it) (λ no. let it : ⊥ = cc in it) s others _ b text status next fault)

    of_bytes_checked : (mid : Told) (bytes : Text) → IsRead spec spec_limit a mid bytes → (text : Text) (status : Status) → OfSpec bytes (Second cert) mid b text status → status ≡ ReadFault → HasRisen words a b
    of_bytes_checked mid bytes read text status (OfSpec.bad none first) fault = absurd (no_fault_bad_spec fault)
    of_bytes_checked mid bytes read text status OfSpec.memory fault = absurd (no_fault_memory fault)
    of_bytes_checked mid bytes read text status (OfSpec.good s spelled next) fault = of_second_checked mid bytes read s text status next fault

    of_file_checked : (text : Text) (status : Status) → ChecksFiles spec cert a b text status → status ≡ ReadFault → HasRisen words a b
    of_file_checked text status (OfFile.too_long took stay) fault = let no : ⊥ = cc in absurd no
    of_file_checked text status (OfFile.fault rose took stay) fault = (spec, record { command = check spec cert; is = is; among = (0, omega (arith), refl) }, rose)
    of_file_checked text status (OfFile.memory took stay) fault = absurd (no_fault_memory fault)
    of_file_checked text status (OfFile.read bytes read next) fault = of_bytes_checked _ bytes read text status next fault

of_reply : (words : List Text) (a b : Told) (text : Text) (status : Status) → Replies words a b text status → status ≡ ReadFault → HasRisen words a b
of_reply words a b text status (Replies.bad_words none) fault = let no : ⊥ = cc in absurd no
of_reply words a b text status (Replies.memory names) fault = absurd (no_fault_memory fault)
of_reply words a b text status (Replies.does (complete file limits) is says) fault = of_file_completed words a b file limits is text status says fault
of_reply words a b text status (Replies.does (check spec cert) is says) fault = of_file_checked words a b spec cert is text status says fault

pub read_fault : (words : List Text) (a b : Told) (failed : Type 0) (old new : Option Text) (status : Status) → Ran words a b failed old new status → status ≡ ReadFault → HasRisen words a b
read_fault words a b failed old new status (Ran.whole replies appends) fault = of_reply words a b _ status replies fault
read_fault words a b failed old new status (Ran.part it replies appends) fault = let no : ⊥ = cc in absurd no

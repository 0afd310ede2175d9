-- What the bytes that a run has written show.
use Rattle.std.proofs.Common.{◌≡◌, ℕ, Bool, List, Option, Some, refl, sym, subst}
use Rattle.std.specs.Io.KnownBytes.{Appends}
use Rattle.trs_rules.specs.declared.derivation.Derivation.{Derivation}
use Rattle.ta_core.specs.TreeAutomaton.{TreeAutomaton}
use Rattle.ta_core.specs.declared.spec.Spec.{Spec}
use Rattle.spec_text.specs.SpecText.{SpecText}
use Rattle.cert_text.specs.Certificates.{CertificateReads}
use Rattle.cert_text.specs.declared.certificate.Certificate.TheVariants as certificate
use Rattle.cert_text.specs.declared.outcome.Outcome.{Outcome}
use Rattle.cert_text.specs.declared.outcome.Outcome.TheVariants as outcome
use Rattle.command_words.specs.Words.{Limits, complete, check, command_of}
use Rattle.verdicts.specs.Completing.{Completes}
use Rattle.calls.specs.Contents.{OfSpec, spec_limit}
use Rattle.calls.specs.Files.{Text, Told, IsRead, OfFile, Aside}
use Rattle.calls.specs.declared.status.Status.{Status}
use Rattle.calls.specs.declared.status.Status.TheVariants.{Unreachable, Reachable, Undecided, Accepted, Rejected, BadWords, BadSpec, BadCert, TooLong, ReadFault, WriteFault, Memory}
use Rattle.top_call.specs.Calls.{SaysVerdict, CompletesFile, Replies, status_of}
use Rattle.top_call.specs.Headline.{ShowsUnreachable, ShowsReachable}
use Rattle.top_call.specs.Named.{NamedByCertificate}
use Rattle.top_call.specs.Writing.{Ran}
use Rattle.top_call.proofs.Statuses.{IsOfCheck, of_check}

-- a verdict that was said of a file's specification
record Said (words : List Text) (a b : Told) (text : Text) (status : Status) : Type 0 where
  file : Text
  limits : Limits
  command : command_of words ≡ Some (complete file limits)
  bytes : Text
  read : IsRead file spec_limit a b bytes
  spec : Spec
  spells : SpecText bytes spec
  found : Outcome
  completes : Completes spec limits text found
  is : status ≡ status_of found

-- the statuses of verdicts
abbrev IsVerdict : Status → Type 0
IsVerdict Unreachable = Unit {0}
IsVerdict Reachable = Unit {0}
IsVerdict Undecided = Unit {0}
IsVerdict _ = ⊥

-- none of them is one of `check`
not_of_check : (status : Status) → IsOfCheck status → IsVerdict status → ⊥
not_of_check Unreachable of_it is = of_it
not_of_check Reachable of_it is = of_it
not_of_check Undecided of_it is = of_it
not_of_check WriteFault of_it is = of_it
not_of_check Accepted of_it is = is
not_of_check Rejected of_it is = is
not_of_check BadWords of_it is = is
not_of_check BadSpec of_it is = is
not_of_check BadCert of_it is = is
not_of_check TooLong of_it is = is
not_of_check ReadFault of_it is = is
not_of_check Memory of_it is = is

module _ (words : List Text) (a b : Told) where
  module _ (file : Text) (limits : Limits) (command : command_of words ≡ Some (complete file limits)) where
    in_aside : (mid : Told) (bytes : Text) → IsRead file spec_limit a mid bytes → (spec : Spec) → SpecText bytes spec → (text : Text) (status : Status) → Aside (SaysVerdict spec limits) mid b text status → IsVerdict status →
        Said words a b text status
    in_aside mid bytes read spec spells text status (Aside.says (SaysVerdict.verdict o completes)) is =
        record { file = file; limits = limits; command = command; bytes = bytes; read = read; spec = spec; spells = spells; found = o; completes = completes; is = refl }
    in_aside mid bytes read spec spells text status Aside.memory is = absurd is

    in_bytes : (mid : Told) (bytes : Text) → IsRead file spec_limit a mid bytes → (text : Text) (status : Status) → OfSpec bytes (λ spec. Aside (SaysVerdict spec limits)) mid b text status → IsVerdict status →
        Said words a b text status
    in_bytes mid bytes read text status (OfSpec.bad none first) is = absurd is
    in_bytes mid bytes read text status OfSpec.memory is = absurd is
    in_bytes mid bytes read text status (OfSpec.good spec spells next) is = in_aside mid bytes read spec spells text status next is

    in_file : (text : Text) (status : Status) → CompletesFile file limits a b text status → IsVerdict status → Said words a b text status
    in_file text status (OfFile.too_long took stay) is = absurd is
    in_file text status (OfFile.fault rose took stay) is = absurd is
    in_file text status (OfFile.memory took stay) is = absurd is
    in_file text status (OfFile.read bytes read next) is = in_bytes _ bytes read text status next is

in_reply : (words : List Text) (a b : Told) (text : Text) (status : Status) → Replies words a b text status → IsVerdict status → Said words a b text status
in_reply words a b text status (Replies.bad_words none) is = absurd is
in_reply words a b text status (Replies.memory names) is = absurd is
in_reply words a b text status (Replies.does (complete file limits) command said) is = in_file words a b file limits command text status said is
in_reply words a b text status (Replies.does (check spec cert) command said) is = absurd (not_of_check status (of_check spec cert a b text status said) is)

module _ (words : List Text) (a b : Told) where
  module _ (failed : Type 0) (old new : Option Text) where
    -- all of a verdict's text was written
    record Wrote (status : Status) : Type 0 where
      text : Text
      written : Appends old new text
      said : Said words a b text status

    wrote : (status : Status) → Ran words a b failed old new status → IsVerdict status → Wrote status
    wrote status (Ran.whole replies appends) is = record { text = _; written = appends; said = in_reply words a b _ status replies is }
    wrote status (Ran.part it replies appends) is = absurd is

    reads_claim : (w : Wrote Unreachable) (i : ℕ) (precise : Bool) (A : TreeAutomaton) (h : List ℕ) → Completes w.said.spec w.said.limits w.text (outcome.Unreachable i precise A h) →
        CertificateReads w.said.spec w.text (certificate.Unreachable i precise A h)
    reads_claim w i precise A h c = subst (λ t. CertificateReads w.said.spec t (certificate.Unreachable i precise A h)) (sym c.is_text) c.checkable.reads

    reads_path : (w : Wrote Reachable) (d : Derivation) → Completes w.said.spec w.said.limits w.text (outcome.Reachable d) → CertificateReads w.said.spec w.text (certificate.Reachable d)
    reads_path w d c = subst (λ t. CertificateReads w.said.spec t (certificate.Reachable d)) (sym c.is_text) c.checkable.reads

    of_unreachable : (w : Wrote Unreachable) (o : Outcome) → Completes w.said.spec w.said.limits w.text o → Unreachable ≡ status_of o → ShowsUnreachable words a b old new
    of_unreachable w (outcome.Unreachable i precise A h) c is = record {
      spec = w.said.spec;
      rounds = i;
      precise = precise;
      automaton = A;
      places = h;
      certifies = record {
        file = w.said.file;
        limits = w.said.limits;
        command = w.said.command;
        bytes = w.said.bytes;
        read = w.said.read;
        spells = w.said.spells;
        text = w.text;
        written = w.written;
        certificate = reads_claim w i precise A h c;
        accepted = λ name few. NamedByCertificate.accepted few (reads_claim w i precise A h c) c.shows.accepted;
      };
      safe = c.shows;
    }
    of_unreachable w (outcome.Reachable d) c is = let no : ⊥ = cc in absurd no
    of_unreachable w (outcome.Undecided why search) c is = let no : ⊥ = cc in absurd no

    of_reachable : (w : Wrote Reachable) (o : Outcome) → Completes w.said.spec w.said.limits w.text o → Reachable ≡ status_of o → ShowsReachable words a b old new
    of_reachable w (outcome.Unreachable i precise A h) c is = let no : ⊥ = cc in absurd no
    of_reachable w (outcome.Reachable d) c is = record {
      spec = w.said.spec;
      derivation = d;
      certifies = record {
        file = w.said.file;
        limits = w.said.limits;
        command = w.said.command;
        bytes = w.said.bytes;
        read = w.said.read;
        spells = w.said.spells;
        text = w.text;
        written = w.written;
        certificate = reads_path w d c;
        accepted = λ name few. NamedByCertificate.accepted few (reads_path w d c) c.shows;
      };
      replays = c.shows;
    }
    of_reachable w (outcome.Undecided why search) c is = let no : ⊥ = cc in absurd no

    pub unreachable : (status : Status) → Ran words a b failed old new status → status ≡ Unreachable → ShowsUnreachable words a b old new
    unreachable status ran is =
        let w = wrote Unreachable (subst (Ran words a b failed old new) is ran) tt in
        of_unreachable w w.said.found w.said.completes w.said.is

    pub reachable : (status : Status) → Ran words a b failed old new status → status ≡ Reachable → ShowsReachable words a b old new
    reachable status ran is =
        let w = wrote Reachable (subst (Ran words a b failed old new) is ran) tt in
        of_reachable w w.said.found w.said.completes w.said.is

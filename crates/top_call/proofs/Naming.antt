-- What is said is what the words and the contents of the files name.
use Rattle.std.proofs.Common.{◌≡◌, ◌⊎◌, inl, inr, ℕ, ◌+◌, ◌<◌, ◌≤◌, Bool, true, false, List, [], ◌++◌, length, Option, Some, None, Decides, refl, sym, ap, subst, ◌∙◌, append-nil, arith}
use Rattle.std.proofs.lemmas.List.{length-append}
use Rattle.std.proofs.lemmas.Slice.Eq.{bytes_eq-Decides}
use Rattle.std.proofs.lemmas.Bool.{false≢true}
use Rattle.std.specs.Prelude.{if◌then◌else◌, codes}
use Rattle.std.specs.Str.{bytes_eq}
use Rattle.std.specs.Io.KnownBytes.{Appends, Consumes, IsAtEnd}
use Rattle.tim_io.specs.Causes.{Rose}
use Rattle.tim_io.specs.Whole.{TookJust}
use Rattle.ranked_terms.specs.SignatureRules.{IsSignature}
use Rattle.trs_rules.specs.declared.derivation.Derivation.{Derivation}
use Rattle.ta_core.specs.TreeAutomaton.{TreeAutomaton}
use Rattle.ta_core.specs.declared.spec.Spec.{Spec}
use Rattle.spec_text.specs.declared.fault.SpecFault.{SpecFault}
use Rattle.spec_text.specs.SpecText.{SpecText}
use Rattle.spec_text.specs.Faults.{SpecFaultAt}
use Rattle.spec_text.specs.Laws.{OneSpec, SpelledNamesDiffer}
use Rattle.cert_text.specs.Certificates.{CertificateReads}
use Rattle.cert_text.specs.Faults.{CertificateFaultAt}
use Rattle.cert_text.specs.declared.certificate.CertFault.{CertFault}
use Rattle.cert_text.specs.Laws.{OneCertificate}
use Rattle.cert_text.specs.declared.certificate.Certificate.{Certificate}
use Rattle.cert_text.specs.declared.certificate.Certificate.TheVariants as certificate
use Rattle.cert_text.specs.declared.outcome.Outcome.{Outcome}
use Rattle.command_words.specs.Words.{Limits, Command, complete, check, command_of}
use Rattle.verdicts.specs.Completing.{Completes}
use Rattle.verdicts.specs.Shown.{IsShown}
use Rattle.verdicts.specs.VerdictLaws.{AreOneOutcome, LimitedVerdictsAreOne}
use Rattle.calls.specs.AnswerText.{line}
use Rattle.calls.specs.Checks.{Checks, ChecksAutomaton, ChecksDerivation, ChecksFiles}
use Rattle.calls.specs.Contents.{OfSpec, OfCert, cert_limit, spec_limit}
use Rattle.calls.specs.FaultText.{fault_line, cert_fault_line}
use Rattle.calls.specs.Files.{Text, Told, IsRead, OfFile, Aside}
use Rattle.calls.specs.declared.status.Status.{Status}
use Rattle.calls.specs.declared.status.Status.TheVariants.{Accepted, Rejected, BadWords, BadSpec, BadCert, TooLong, Memory}
use Rattle.top_call.specs.Calls.{SaysVerdict, CompletesFile, Replies, IsFileOf, status_of}
use Rattle.top_call.specs.Named.{Named, NamedByCertificate, NamedBySpec, NamedByFile, NamedByCommand, AnswersNamed, accepted_text, second_of}
use Rattle.top_call.specs.Writing.{Ran}
use Rattle.top_call.proofs.Statuses.{Second, rose_before}

pub some_once : {A : Type 0} {x y : A} → Some x ≡ Some y → x ≡ y
some_once is = cc

-- ---- what is told of a file

-- what was taken of a file up to its end is what was told of it
whole : (given left : Option Text) (bytes told : Text) → given ≡ Some told → Consumes given left bytes → IsAtEnd left → bytes ≡ told
whole None left bytes told is taken ended = let no : ⊥ = cc in absurd no
whole (Some all) None bytes told is taken ended = absurd taken
whole (Some all) (Some rest) bytes told is taken ended =
    let same : all ≡ told = cc in
    sym (append-nil bytes) ∙ (ap (λ r. bytes ++ r) (sym ended) ∙ (sym taken ∙ same))

-- and then nothing is left of it
nothing_left : (given left : Option Text) (bytes told : Text) → given ≡ Some told → Consumes given left bytes → IsAtEnd left → left ≡ Some []
nothing_left None left bytes told is taken ended = let no : ⊥ = cc in absurd no
nothing_left (Some all) None bytes told is taken ended = absurd taken
nothing_left (Some all) (Some rest) bytes told is taken ended = ap Some ended

-- what so many bytes were taken of has as many
as_many : (count : ℕ) (given left : Option Text) (told : Text) → given ≡ Some told → TookJust count given left → count ≤ length told
as_many count None left told is took = let no : ⊥ = cc in absurd no
as_many count (Some all) None told is took = absurd took.1
as_many count (Some all) (Some rest) told is took =
    let same : all ≡ told = cc in
    let sum : length told ≡ length took.0 + length rest = ap length (sym same ∙ took.1) ∙ length-append took.0 rest in
    omega (arith, sum, took.2)

-- where the first of two files was read whole, this is told of the second
told_second : (given left : Text → Option Text) (first second : Text) (r : Bool) → Decides r (second ≡ first) → (others : Text) → (if r then Some [] else given second) ≡ Some others → left first ≡ Some [] →
    ((second ≡ first → ⊥) → left second ≡ given second) → left second ≡ Some others
told_second given left first second true same others is empty stays = ap left (same.0 refl) ∙ (empty ∙ is)
told_second given left first second false other others is empty stays = stays (λ e. false≢true (other.1 e)) ∙ is

-- ---- one verdict has one status

pub one_status : (o p : Outcome) → AreOneOutcome o p → status_of o ≡ status_of p
one_status o p AreOneOutcome.same = refl
one_status o p (AreOneOutcome.derivations long) = refl
one_status o p (AreOneOutcome.witnesses ends) = refl

-- ---- what `check` says of a certificate

-- it shows what it claims, or not
abbrev Says : Spec → Certificate → Text → Status → Type 0
Says spec c text status = ((status ≡ Accepted) × (text ≡ accepted_text c) × IsShown spec c) ⊎ ((status ≡ Rejected) × (IsShown spec c → ⊥))

of_automaton : (spec : Spec) (i : ℕ) (precise : Bool) (A : TreeAutomaton) (h : List ℕ) (text : Text) (status : Status) → ChecksAutomaton spec A h text status → Says spec (certificate.Unreachable i precise A h) text status
of_automaton spec i precise A h text status (ChecksAutomaton.accepted shown) = inl (refl, refl, shown.accepted)
of_automaton spec i precise A h text status (ChecksAutomaton.rejected not why answers) = inr (refl, not)

of_derivation : (spec : Spec) (d : Derivation) (text : Text) (status : Status) → ChecksDerivation spec d text status → Says spec (certificate.Reachable d) text status
of_derivation spec d text status (ChecksDerivation.accepted shown) = inl (refl, refl, shown.replays)
of_derivation spec d text status (ChecksDerivation.rejected not why answers) = inr (refl, not)

says_of : (spec : Spec) (c : Certificate) (text : Text) (status : Status) → Checks spec c text status → Says spec c text status
says_of spec (certificate.Unreachable i precise A h) text status checks = of_automaton spec i precise A h text status checks
says_of spec (certificate.Reachable d) text status checks = of_derivation spec d text status checks

-- what is rejected doesn't
no_claim : (spec : Spec) (c : Certificate) (text : Text) → Says spec c text Rejected → IsShown spec c → ⊥
no_claim spec c text (inl does) shown = let is = does.0 in let no : ⊥ = cc in no
no_claim spec c text (inr not) shown = not.1 shown

pub not_shown : (spec : Spec) (c : Certificate) (text : Text) → Checks spec c text Rejected → IsShown spec c → ⊥
not_shown spec c text checks shown = no_claim spec c text (says_of spec c text Rejected checks) shown

-- ---- the text and the status that are said are named, where some are

-- want of memory, or the status that is named, with a text that is
abbrev IsNamed : (Text → Status → Type 0) → Text → Status → Status → Type 0
IsNamed N text status s = (status ≡ Memory) ⊎ ((status ≡ s) × N text s)

module _ (one_spec : OneSpec) (differ : SpelledNamesDiffer) (one_certificate : OneCertificate) (one_verdict : LimitedVerdictsAreOne) where
  -- by a verdict
  by_outcomes : (limits : Limits) (spec : Spec) (text t : Text) (o p : Outcome) → Completes spec limits text o → Completes spec limits t p → IsNamed (SaysVerdict spec limits) text (status_of o) (status_of p)
  by_outcomes limits spec text t o p one other =
      let same = one_status o p (one_verdict spec limits o p (one.options, one.same_limits, one.verdict) (other.options, other.same_limits, other.verdict)) in
      inr (same, subst (SaysVerdict spec limits text) same (SaysVerdict.verdict o one))

  by_verdict : (limits : Limits) (spec : Spec) (a b : Told) (text : Text) (status : Status) (t : Text) (s : Status) → Aside (SaysVerdict spec limits) a b text status → SaysVerdict spec limits t s →
      IsNamed (SaysVerdict spec limits) text status s
  by_verdict limits spec a b text status t s (Aside.says (SaysVerdict.verdict o completes)) (SaysVerdict.verdict p others) = by_outcomes limits spec text t o p completes others
  by_verdict limits spec a b text status t s Aside.memory named = inl refl

  -- by the bytes of a certificate's file
  module _ (spec : Spec) (is_signature : IsSignature spec.signature) (name bytes : Text) where
    abbrev ByBytes : Text → Status → Type 0
    ByBytes = NamedByCertificate spec name bytes

    by_said : (c : Certificate) → CertificateReads spec bytes c → length bytes ≤ cert_limit → (text : Text) (status : Status) → Checks spec c text status → Says spec c text status → (t : Text) (s : Status) → ByBytes t s →
        IsNamed ByBytes text status s
    by_said c reads few text status checks says t s (NamedByCertificate.too_long long) = absurd (omega (arith, few, long))
    by_said c reads few text status checks says t s (NamedByCertificate.bad short none first) = absurd (none c reads)
    by_said c reads few text status checks (inl does) t s (NamedByCertificate.accepted short other is) =
        inr (does.0, subst (λ x. ByBytes x Accepted) (sym does.1) (NamedByCertificate.accepted few reads does.2))
    by_said c reads few text status checks (inr not) t s (NamedByCertificate.accepted short other is) = absurd (not.1 (subst (IsShown spec) (one_certificate spec bytes _ c is_signature other reads) is))
    by_said c reads few text status checks (inl does) t s (NamedByCertificate.rejected short other rejects) =
        absurd (not_shown spec c t (subst (λ x. Checks spec x t Rejected) (one_certificate spec bytes _ c is_signature other reads) rejects) does.2)
    by_said c reads few text status checks (inr not) t s (NamedByCertificate.rejected short other rejects) = inr (not.0, NamedByCertificate.rejected few reads (subst (Checks spec c text) not.0 checks))

    by_aside : (c : Certificate) → CertificateReads spec bytes c → length bytes ≤ cert_limit → (a b : Told) (text : Text) (status : Status) (t : Text) (s : Status) → Aside (Checks spec c) a b text status → ByBytes t s →
        IsNamed ByBytes text status s
    by_aside c reads few a b text status t s (Aside.says checks) named = by_said c reads few text status checks (says_of spec c text status checks) t s named
    by_aside c reads few a b text status t s Aside.memory named = inl refl

    bad_certificate : length bytes ≤ cert_limit → ((c : Certificate) → CertificateReads spec bytes c → ⊥) → (fault : CertFault) → CertificateFaultAt spec bytes fault → (t : Text) (s : Status) → ByBytes t s →
        IsNamed ByBytes (cert_fault_line fault) BadCert s
    bad_certificate few none fault first t s (NamedByCertificate.too_long long) = absurd (omega (arith, few, long))
    bad_certificate few none fault first t s (NamedByCertificate.bad short also other) = inr (refl, NamedByCertificate.bad few none first)
    bad_certificate few none fault first t s (NamedByCertificate.accepted short reads is) = absurd (none _ reads)
    bad_certificate few none fault first t s (NamedByCertificate.rejected short reads rejects) = absurd (none _ reads)

    by_certificate : length bytes ≤ cert_limit → (a b : Told) (text : Text) (status : Status) (t : Text) (s : Status) → OfCert spec bytes (λ c. Aside (Checks spec c)) a b text status → ByBytes t s → IsNamed ByBytes text status s
    by_certificate few a b text status t s (OfCert.bad none first) named = bad_certificate few none _ first t s named
    by_certificate few a b text status t s OfCert.memory named = inl refl
    by_certificate few a b text status t s (OfCert.good c reads next) named = by_aside c reads few a b text status t s next named

    certificate_too_long : cert_limit < length bytes → (t : Text) (s : Status) → ByBytes t s → IsNamed ByBytes (line (codes "Too long " ++ name)) TooLong s
    certificate_too_long long t s (NamedByCertificate.too_long more) = inr (refl, NamedByCertificate.too_long long)
    certificate_too_long long t s (NamedByCertificate.bad short none first) = absurd (omega (arith, long, short))
    certificate_too_long long t s (NamedByCertificate.accepted short reads is) = absurd (omega (arith, long, short))
    certificate_too_long long t s (NamedByCertificate.rejected short reads rejects) = absurd (omega (arith, long, short))

    second_read : (a b : Told) → a.left name ≡ Some bytes → (mid : Told) (others : Text) → IsRead name cert_limit a mid others → (text : Text) (status : Status) (t : Text) (s : Status) →
        OfCert spec others (λ c. Aside (Checks spec c)) mid b text status → ByBytes t s → IsNamed ByBytes text status s
    second_read a b told mid others read text status t s next named =
        let same : others ≡ bytes = whole (a.left name) (mid.left name) others bytes told read.taken read.ended in
        by_certificate (subst (λ x. length x ≤ cert_limit) same read.few) mid b text status t s (subst (λ x. OfCert spec x (λ c. Aside (Checks spec c)) mid b text status) same next) named

    -- and by the file
    by_second : (a b : Told) → a.left name ≡ Some bytes → (Rose (a.faults name) (b.faults name) → ⊥) → (text : Text) (status : Status) (t : Text) (s : Status) → Second name spec a b text status → ByBytes t s →
        IsNamed ByBytes text status s
    by_second a b told quiet text status t s (OfFile.too_long took stay) named =
        let many = as_many (cert_limit + 1) (a.left name) (b.left name) bytes told took in
        certificate_too_long (omega (arith, many)) t s named
    by_second a b told quiet text status t s (OfFile.fault rose took stay) named = absurd (quiet rose)
    by_second a b told quiet text status t s (OfFile.memory took stay) named = inl refl
    by_second a b told quiet text status t s (OfFile.read others read next) named = second_read a b told _ others read text status t s next named

  -- by the bytes of a specification's file
  module _ (Next : Spec → Told → Told → Text → Status → Type 0) (Further : Spec → Text → Status → Type 0) (name bytes : Text) where
    abbrev BySpec : Text → Status → Type 0
    BySpec = NamedBySpec Further name bytes

    abbrev Agrees : Told → Told → Type 0
    Agrees mid b = (spec : Spec) → SpecText bytes spec → (text : Text) (status : Status) (t : Text) (s : Status) → Next spec mid b text status → Further spec t s → IsNamed (Further spec) text status s

    spec_too_long : spec_limit < length bytes → (t : Text) (s : Status) → BySpec t s → IsNamed BySpec (line (codes "Too long " ++ name)) TooLong s
    spec_too_long long t s (NamedBySpec.too_long more) = inr (refl, NamedBySpec.too_long long)
    spec_too_long long t s (NamedBySpec.bad short none first) = absurd (omega (arith, long, short))
    spec_too_long long t s (NamedBySpec.good short spelled further) = absurd (omega (arith, long, short))

    spec_bad : length bytes ≤ spec_limit → ((spec : Spec) → SpecText bytes spec → ⊥) → (fault : SpecFault) → SpecFaultAt bytes fault → (t : Text) (s : Status) → BySpec t s → IsNamed BySpec (fault_line fault) BadSpec s
    spec_bad few none fault first t s (NamedBySpec.too_long long) = absurd (omega (arith, few, long))
    spec_bad few none fault first t s (NamedBySpec.bad short also other) = inr (refl, NamedBySpec.bad few none first)
    spec_bad few none fault first t s (NamedBySpec.good short spelled further) = absurd (none _ spelled)

    module _ (few : length bytes ≤ spec_limit) where
      widened : (spec : Spec) → SpecText bytes spec → (text : Text) (status s : Status) → IsNamed (Further spec) text status s → IsNamed BySpec text status s
      widened spec spelled text status s (inl memory) = inl memory
      widened spec spelled text status s (inr named) = inr (named.0, NamedBySpec.good few spelled named.1)

      by_spelled : (a b : Told) → Agrees a b → (spec : Spec) → SpecText bytes spec → (text : Text) (status : Status) (t : Text) (s : Status) → Next spec a b text status → BySpec t s → IsNamed BySpec text status s
      by_spelled a b agree spec spelled text status t s next (NamedBySpec.too_long long) = absurd (omega (arith, few, long))
      by_spelled a b agree spec spelled text status t s next (NamedBySpec.bad short none first) = absurd (none spec spelled)
      by_spelled a b agree spec spelled text status t s next (NamedBySpec.good short other further) =
          widened spec spelled text status s (agree spec spelled text status t s next (subst (λ x. Further x t s) (one_spec bytes _ spec other spelled) further))

      by_bytes : (a b : Told) → Agrees a b → (text : Text) (status : Status) (t : Text) (s : Status) → OfSpec bytes Next a b text status → BySpec t s → IsNamed BySpec text status s
      by_bytes a b agree text status t s (OfSpec.bad none first) named = spec_bad few none _ first t s named
      by_bytes a b agree text status t s OfSpec.memory named = inl refl
      by_bytes a b agree text status t s (OfSpec.good spec spelled next) named = by_spelled a b agree spec spelled text status t s next named

    first_read : (a b : Told) → a.left name ≡ Some bytes → (mid : Told) (others : Text) → IsRead name spec_limit a mid others → ((mid : Told) → IsRead name spec_limit a mid bytes → Agrees mid b) →
        (text : Text) (status : Status) (t : Text) (s : Status) → OfSpec others Next mid b text status → BySpec t s → IsNamed BySpec text status s
    first_read a b told mid others read agree text status t s next named =
        let same : others ≡ bytes = whole (a.left name) (mid.left name) others bytes told read.taken read.ended in
        let is = subst (IsRead name spec_limit a mid) same read in
        by_bytes is.few mid b (agree mid is) text status t s (subst (λ x. OfSpec x Next mid b text status) same next) named

    -- and by the file
    by_first : (a b : Told) → a.left name ≡ Some bytes → (Rose (a.faults name) (b.faults name) → ⊥) → ((mid : Told) → IsRead name spec_limit a mid bytes → Agrees mid b) →
        (text : Text) (status : Status) (t : Text) (s : Status) → OfFile name spec_limit (λ x. OfSpec x Next) a b text status → BySpec t s → IsNamed BySpec text status s
    by_first a b told quiet agree text status t s (OfFile.too_long took stay) named =
        let many = as_many (spec_limit + 1) (a.left name) (b.left name) bytes told took in
        spec_too_long (omega (arith, many)) t s named
    by_first a b told quiet agree text status t s (OfFile.fault rose took stay) named = absurd (quiet rose)
    by_first a b told quiet agree text status t s (OfFile.memory took stay) named = inl refl
    by_first a b told quiet agree text status t s (OfFile.read others read next) named = first_read a b told _ others read agree text status t s next named

  -- by the bytes of a file that are told
  of_file : (N : Text → Text → Status → Type 0) (given : Option Text) (bytes : Text) → given ≡ Some bytes → (text : Text) (status s : Status) → IsNamed (N bytes) text status s → IsNamed (NamedByFile N given) text status s
  of_file N given bytes told text status s (inl memory) = inl memory
  of_file N given bytes told text status s (inr named) = inr (named.0, (bytes, told, named.1))

  -- by a command
  module _ (words : List Text) (a b : Told) (quiet : (name : Text) → IsFileOf words name → Rose (a.faults name) (b.faults name) → ⊥) where
    abbrev Verdicts : Limits → Spec → Text → Status → Type 0
    Verdicts limits spec = SaysVerdict spec limits

    by_complete : (file : Text) (limits : Limits) → command_of words ≡ Some (complete file limits) → (text : Text) (status : Status) (t : Text) (s : Status) → CompletesFile file limits a b text status →
        NamedByCommand a.left (complete file limits) t s → IsNamed (NamedByCommand a.left (complete file limits)) text status s
    by_complete file limits is text status t s says named =
        of_file (NamedBySpec (Verdicts limits) file) (a.left file) named.0 named.1 text status s
        (by_first (λ spec. Aside (SaysVerdict spec limits)) (Verdicts limits) file named.0 a b named.1 (quiet file (record { command = complete file limits; is = is; among = (0, omega (arith), refl) }))
        (λ mid read spec spelled text status t s says further. by_verdict limits spec mid b text status t s says further) text status t s says named.2)

    abbrev Certificates : Text → Text → Spec → Text → Status → Type 0
    Certificates spec cert s = NamedByFile (NamedByCertificate s cert) (second_of a.left spec cert)

    by_check : (spec cert : Text) → command_of words ≡ Some (check spec cert) → (text : Text) (status : Status) (t : Text) (s : Status) → ChecksFiles spec cert a b text status →
        NamedByCommand a.left (check spec cert) t s → IsNamed (NamedByCommand a.left (check spec cert)) text status s
    by_check spec cert is text status t s says named =
        of_file (NamedBySpec (Certificates spec cert) spec) (a.left spec) named.0 named.1 text status s
        (by_first (Second cert) (Certificates spec cert) spec named.0 a b named.1 (quiet spec (record { command = check spec cert; is = is; among = (0, omega (arith), refl) }))
        (λ mid read specification spelled text status t s says further.
        let empty = nothing_left (a.left spec) (mid.left spec) named.0 named.0 named.1 read.taken read.ended in
        let told = told_second a.left mid.left spec cert (bytes_eq cert spec) (bytes_eq-Decides cert spec) further.0 further.1 empty (λ other. read.others.left cert other) in
        of_file (NamedByCertificate specification cert) (second_of a.left spec cert) further.0 further.1 text status s
        (by_second specification (differ named.0 specification spelled).0 cert further.0 mid b told
        (λ rose. quiet cert (record { command = check spec cert; is = is; among = (1, omega (arith), refl) }) (rose_before (a.faults cert) (mid.faults cert) (b.faults cert) (read.later cert) rose))
        text status t s says further.2)) text status t s says named.2)

  -- no words are two commands, or one and none
  module _ (words : List Text) (given : Text → Option Text) (command : Command) (is : command_of words ≡ Some command) where
    of_command : (text : Text) (status s : Status) → IsNamed (NamedByCommand given command) text status s → IsNamed (Named words given) text status s
    of_command text status s (inl memory) = inl memory
    of_command text status s (inr named) = inr (named.0, Named.by_command command is named.1)

  said_is_named : (words : List Text) (a b : Told) (quiet : (name : Text) → IsFileOf words name → Rose (a.faults name) (b.faults name) → ⊥) (text : Text) (status : Status) (t : Text) (s : Status) → Replies words a b text status →
      Named words a.left t s → IsNamed (Named words a.left) text status s
  said_is_named words a b quiet text status t s (Replies.bad_words none) (Named.bad_words also) = inr (refl, Named.bad_words none)
  said_is_named words a b quiet text status t s (Replies.bad_words none) (Named.by_command command is named) = let no : ⊥ = cc in absurd no
  said_is_named words a b quiet text status t s (Replies.memory names) named = inl refl
  said_is_named words a b quiet text status t s (Replies.does command is says) (Named.bad_words none) = let no : ⊥ = cc in absurd no
  said_is_named words a b quiet text status t s (Replies.does (complete file limits) is says) (Named.by_command command also named) =
      let same : command ≡ complete file limits = some_once (sym also ∙ is) in
      of_command words a.left (complete file limits) is text status s (by_complete words a b quiet file limits is text status t s says (subst (λ c. NamedByCommand a.left c t s) same named))
  said_is_named words a b quiet text status t s (Replies.does (check spec cert) is says) (Named.by_command command also named) =
      let same : command ≡ check spec cert = some_once (sym also ∙ is) in
      of_command words a.left (check spec cert) is text status s (by_check words a b quiet spec cert is text status t s says (subst (λ c. NamedByCommand a.left c t s) same named))

  wrote_it : (words : List Text) (given : Text → Option Text) (old new : Option Text) (text : Text) (status s : Status) → Appends old new text → IsNamed (Named words given) text status s → AnswersNamed words given old new s status
  wrote_it words given old new text status s appends (inl memory) = inl memory
  wrote_it words given old new text status s appends (inr named) = inr (named.0, (text, named.1, appends))

  pub ran : (words : List Text) (a b : Told) → ((name : Text) → IsFileOf words name → Rose (a.faults name) (b.faults name) → ⊥) → (failed : Type 0) (old new : Option Text) (status : Status) (t : Text) (s : Status) → (failed → ⊥) →
      Ran words a b failed old new status → Named words a.left t s → AnswersNamed words a.left old new s status
  ran words a b quiet failed old new status t s calm (Ran.whole replies appends) named = wrote_it words a.left old new _ status s appends (said_is_named words a b quiet _ status t s replies named)
  ran words a b quiet failed old new status t s calm (Ran.part it replies appends) named = absurd (calm it)

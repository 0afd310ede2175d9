-- What `check` says of a certificate.
use Rattle.std.proofs.Common.{◌≡◌, ◌↔◌, ℕ, List, Result, Ok, Err, String, string_bytes, refl, subst, sym}
use Rattle.std.specs.Result.{IfOk}
use Rattle.std.specs.Global.{Global}
use Rattle.std.specs.declared.alloc.AllocError.{AllocError}
use Rattle.ranked_terms.specs.declared.term.Term.{Term}
use Rattle.trs_rules.specs.declared.derivation.Derivation.{Derivation}
use Rattle.ta_core.specs.TreeAutomaton.{TreeAutomaton}
use Rattle.ta_core.specs.Acceptance.{IsAccepted}
use Rattle.ta_core.specs.Reachability.{Reachable, Forbidden, Replays}
use Rattle.ta_core.specs.declared.spec.Spec.{Spec}
use Rattle.spec_text.specs.SpecText.{SpecText}
use Rattle.cert_text.specs.declared.certificate.Certificate.{Certificate}
use Rattle.cert_text.specs.Certificates.{CertificateReads}
use Rattle.closure_check.specs.Answers.{Answers}
use Rattle.closure_check.specs.Replaying.{DerivationAnswers, ReachesForbidden}
use Rattle.closure_check.specs.declared.answer.Answer.{Answer}
use Rattle.closure_check.specs.declared.answer.Answer.TheVariants as answer
use Rattle.closure_check.specs.declared.replaying.DAnswer.{DAnswer}
use Rattle.closure_check.specs.declared.replaying.DAnswer.TheVariants as derivation
use Rattle.calls.specs.AnswerText.{automaton_line, automaton_status, derivation_line, derivation_status}
use Rattle.calls.specs.Checks.{Checks, ChecksAutomaton, ChecksCertificate, ChecksDerivation, ChecksFiles}
use Rattle.calls.specs.Contents.{OfSpec, OfCert, spec_limit, cert_limit}
use Rattle.calls.specs.Endings.{Ends, answered}
use Rattle.calls.specs.Files.{Text, Told, IsRead, OfFile, Aside, Never}
use Rattle.calls.specs.declared.reading.Ending.{Ending}
use Rattle.calls.specs.declared.status.Status.{Status}
use Rattle.calls.proofs.Replies.{ends_map, of_file, of_spec, of_cert}

-- ---- an automaton with its map

of_automaton : (spec : Spec) (A : TreeAutomaton) (h : List ℕ) (why : Answer) → Answers spec A h why → (why ≡ answer.Yes) ↔ IsAccepted spec A h
    → (why ≡ answer.Yes → (t : Term) → Reachable spec t → Forbidden spec t → ⊥) → ChecksAutomaton spec A h (automaton_line why) (automaton_status why)
of_automaton spec A h answer.Yes answers iff safe = ChecksAutomaton.accepted (record { accepted = answers; safe = safe refl })
of_automaton spec A h (answer.NotContained missing) answers iff safe =
    ChecksAutomaton.rejected (λ is. let same : answer.NotContained missing ≡ answer.Yes = iff.1 is in let no : ⊥ = cc in no) (answer.NotContained missing) answers
of_automaton spec A h (answer.Open pair) answers iff safe =
    ChecksAutomaton.rejected (λ is. let same : answer.Open pair ≡ answer.Yes = iff.1 is in let no : ⊥ = cc in no) (answer.Open pair) answers
of_automaton spec A h (answer.Meets p q) answers iff safe =
    ChecksAutomaton.rejected (λ is. let same : answer.Meets p q ≡ answer.Yes = iff.1 is in let no : ⊥ = cc in no) (answer.Meets p q) answers

pub says_of_automaton : (spec : Spec) (A : TreeAutomaton) (h : List ℕ) (why : Answer) → Answers spec A h why → (why ≡ answer.Yes) ↔ IsAccepted spec A h
    → (why ≡ answer.Yes → (t : Term) → Reachable spec t → Forbidden spec t → ⊥) → (r : Result (Status × String Global) AllocError)
    → IfOk r (λ a. (a.0 ≡ automaton_status why) × (string_bytes a.1 ≡ automaton_line why)) → IfOk r (λ a. ChecksAutomaton spec A h (string_bytes a.1) a.0)
says_of_automaton spec A h why answers iff safe (Ok a) is =
    subst (λ t. ChecksAutomaton spec A h t a.0) (sym is.1) (subst (ChecksAutomaton spec A h (automaton_line why)) (sym is.0) (of_automaton spec A h why answers iff safe))
says_of_automaton spec A h why answers iff safe (Err e) is = tt

-- ---- a derivation

of_derivation : (spec : Spec) (d : Derivation) (why : DAnswer) → DerivationAnswers spec d why → (why ≡ derivation.Yes) ↔ Replays spec d → (why ≡ derivation.Yes → ReachesForbidden spec)
    → ChecksDerivation spec d (derivation_line why) (derivation_status why)
of_derivation spec d derivation.Yes answers iff reaches = ChecksDerivation.accepted (record { replays = answers; reaches = reaches refl })
of_derivation spec d derivation.Start answers iff reaches =
    ChecksDerivation.rejected (λ is. let same : derivation.Start ≡ derivation.Yes = iff.1 is in let no : ⊥ = cc in no) derivation.Start answers
of_derivation spec d (derivation.Step n) answers iff reaches =
    ChecksDerivation.rejected (λ is. let same : derivation.Step n ≡ derivation.Yes = iff.1 is in let no : ⊥ = cc in no) (derivation.Step n) answers
of_derivation spec d derivation.End answers iff reaches =
    ChecksDerivation.rejected (λ is. let same : derivation.End ≡ derivation.Yes = iff.1 is in let no : ⊥ = cc in no) derivation.End answers

pub says_of_derivation : (spec : Spec) (d : Derivation) (why : DAnswer) → DerivationAnswers spec d why → (why ≡ derivation.Yes) ↔ Replays spec d → (why ≡ derivation.Yes → ReachesForbidden spec)
    → (r : Result (Status × String Global) AllocError) → IfOk r (λ a. (a.0 ≡ derivation_status why) × (string_bytes a.1 ≡ derivation_line why))
    → IfOk r (λ a. ChecksDerivation spec d (string_bytes a.1) a.0)
says_of_derivation spec d why answers iff reaches (Ok a) is =
    subst (λ t. ChecksDerivation spec d t a.0) (sym is.1) (subst (ChecksDerivation spec d (derivation_line why)) (sym is.0) (of_derivation spec d why answers iff reaches))
says_of_derivation spec d why answers iff reaches (Err e) is = tt

-- ---- the command

module _ (spec_name cert_name : Text) (a b : Told) where
  -- how it goes on with a specification
  abbrev Rest : Spec → Told → Told → Text → Status → Type 0
  Rest spec = OfFile cert_name cert_limit (λ others. OfCert spec others (λ c. Aside (Checks spec c)))

  -- it ends with the first file
  pub ends_first : (e : Ending) → Ends (OfFile spec_name spec_limit (λ bytes. OfSpec bytes (λ spec. Never))) a b e → Ends (ChecksFiles spec_name cert_name) a b e
  ends_first e h = ends_map (OfFile spec_name spec_limit (λ bytes. OfSpec bytes (λ spec. Never))) (ChecksFiles spec_name cert_name) a a b e
      (of_file spec_name spec_limit (λ bytes. OfSpec bytes (λ spec. Never)) (λ bytes. OfSpec bytes Rest) (λ bytes c d text status h. of_spec Rest bytes c d text status h) a b) h

  -- or with what is said of the certificate beside it
  pub ends_second : (mid : Told) (bytes : Text) (spec : Spec) → IsRead spec_name spec_limit a mid bytes → SpecText bytes spec → (e : Ending) → Ends (ChecksCertificate spec cert_name) mid b e → Ends (ChecksFiles spec_name cert_name) a b e
  ends_second mid bytes spec is spelled e h =
      ends_map (ChecksCertificate spec cert_name) (ChecksFiles spec_name cert_name) a mid b e (λ text status says. OfFile.read bytes is (OfSpec.good spec spelled says)) h

module _ (spec : Spec) (cert_name : Text) (a b : Told) where
  -- a command ends with the certificate
  pub ends_unread : (e : Ending) → Ends (OfFile cert_name cert_limit (λ others. OfCert spec others (λ c. Never))) a b e → Ends (ChecksCertificate spec cert_name) a b e
  ends_unread e h = ends_map (OfFile cert_name cert_limit (λ others. OfCert spec others (λ c. Never))) (ChecksCertificate spec cert_name) a a b e
      (of_file cert_name cert_limit (λ others. OfCert spec others (λ c. Never)) (λ others. OfCert spec others (λ c. Aside (Checks spec c)))
      (λ others c d text status h. of_cert spec (λ c. Aside (Checks spec c)) others c d text status h) a b) h

  -- or with what it shows
  pub ends_last : (others : Text) (c : Certificate) → IsRead cert_name cert_limit a b others → CertificateReads spec others c → (r : Result (Status × String Global) AllocError)
      → IfOk r (λ answer. Checks spec c (string_bytes answer.1) answer.0) → Ends (ChecksCertificate spec cert_name) a b (answered r)
  ends_last others c read reads (Ok answer) checks = OfFile.read others read (OfCert.good c reads (Aside.says checks))
  ends_last others c read reads (Err e) checks = OfFile.read others read (OfCert.good c reads Aside.memory)

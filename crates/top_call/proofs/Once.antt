-- The words and the contents of the files name one answer.
use Rattle.std.proofs.Common.{◌≡◌, ◌⊎◌, inl, inr, ℕ, ◌+◌, ◌<◌, ◌≤◌, List, length, Option, Some, refl, sym, ap, subst, ◌∙◌, arith}
use Rattle.std.specs.Prelude.{codes}
use Rattle.ranked_terms.specs.SignatureRules.{IsSignature}
use Rattle.trs_rules.specs.Derivations.{IsFirstBad}
use Rattle.trs_rules.specs.declared.derivation.Derivation.{Derivation}
use Rattle.ta_core.specs.TreeAutomaton.{TreeAutomaton}
use Rattle.ta_core.specs.declared.spec.Spec.{Spec}
use Rattle.spec_text.specs.SpecText.{SpecText}
use Rattle.spec_text.specs.Laws.{OneSpec, OneFirstFault, SpelledNamesDiffer}
use Rattle.cert_text.specs.Certificates.{CertificateReads, certificate_text}
use Rattle.cert_text.specs.Laws.{OneCertificate, OneFault}
use Rattle.cert_text.specs.declared.certificate.Certificate.{Certificate}
use Rattle.cert_text.specs.declared.certificate.Certificate.TheVariants as certificate
use Rattle.cert_text.specs.declared.outcome.Outcome.{Outcome}
use Rattle.command_words.specs.Words.{Limits, Command, complete, check, command_of}
use Rattle.closure_check.specs.Answers.{HasOneAnswer}
use Rattle.closure_check.specs.Replaying.{DerivationAnswers}
use Rattle.closure_check.specs.declared.replaying.DAnswer.{DAnswer}
use Rattle.closure_check.specs.declared.replaying.DAnswer.TheVariants as answer
use Rattle.verdicts.specs.Completing.{Completes}
use Rattle.verdicts.specs.Shown.{IsShown}
use Rattle.verdicts.specs.VerdictLaws.{AreOneOutcome, LimitedVerdictsAreOne}
use Rattle.calls.specs.AnswerText.{automaton_line, derivation_line}
use Rattle.calls.specs.Checks.{Checks, ChecksAutomaton, ChecksDerivation}
use Rattle.calls.specs.Contents.{cert_limit, spec_limit}
use Rattle.calls.specs.FaultText.{fault_line, cert_fault_line}
use Rattle.calls.specs.Files.{Text}
use Rattle.calls.specs.declared.status.Status.{Status}
use Rattle.calls.specs.declared.status.Status.TheVariants.{Rejected}
use Rattle.top_call.specs.Calls.{SaysVerdict, status_of}
use Rattle.top_call.specs.Named.{Named, NamedByCertificate, NamedBySpec, NamedByFile, NamedByCommand, accepted_text, second_of}
use Rattle.top_call.specs.Laws.{OneIsNamed, AreOneText}
use Rattle.top_call.proofs.Naming.{some_once, one_status, not_shown}

-- one status, and one text but for a choice
abbrev Agree : Text → Status → Text → Status → Type 0
Agree t s u r = (s ≡ r) × AreOneText t u

one_text : (t u : Text) → t ≡ u → AreOneText t u
one_text t u same = subst (AreOneText t) same AreOneText.same

-- ---- one answer of the check

module _ (spec : Spec) (d : Derivation) where
  places : (m n : ℕ) → (m < n) ⊎ ((m ≡ n) ⊎ (n < m))
  places m n = grind arith

  of_places : (m n : ℕ) (x : IsFirstBad spec.rules d m) (y : IsFirstBad spec.rules d n) → (x.place < y.place) ⊎ ((x.place ≡ y.place) ⊎ (y.place < x.place)) → m ≡ n
  of_places m n x y (inl less) = absurd (x.bad (y.earlier x.place less))
  of_places m n x y (inr (inl same)) = let first = x.counts in let second = y.counts in omega (arith, first, second, same)
  of_places m n x y (inr (inr more)) = absurd (y.bad (x.earlier y.place more))

  one_derivation_answer : (x y : DAnswer) → (x ≡ answer.Yes → ⊥) → (y ≡ answer.Yes → ⊥) → DerivationAnswers spec d x → DerivationAnswers spec d y → x ≡ y
  one_derivation_answer answer.Yes y no_x no_y one other = absurd (no_x refl)
  one_derivation_answer answer.Start answer.Yes no_x no_y one other = absurd (no_y refl)
  one_derivation_answer answer.Start answer.Start no_x no_y one other = refl
  one_derivation_answer answer.Start (answer.Step n) no_x no_y one other = absurd (one other.0)
  one_derivation_answer answer.Start answer.End no_x no_y one other = absurd (one other.0)
  one_derivation_answer (answer.Step m) answer.Yes no_x no_y one other = absurd (no_y refl)
  one_derivation_answer (answer.Step m) answer.Start no_x no_y one other = absurd (other one.0)
  one_derivation_answer (answer.Step m) (answer.Step n) no_x no_y one other = ap answer.Step (of_places m n one.1 other.1 (places one.1.place other.1.place))
  one_derivation_answer (answer.Step m) answer.End no_x no_y one other = absurd (one.1.bad (other.1 one.1.place one.1.within))
  one_derivation_answer answer.End answer.Yes no_x no_y one other = absurd (no_y refl)
  one_derivation_answer answer.End answer.Start no_x no_y one other = absurd (other one.0)
  one_derivation_answer answer.End (answer.Step n) no_x no_y one other = absurd (other.1.bad (one.1 other.1.place other.1.within))
  one_derivation_answer answer.End answer.End no_x no_y one other = refl

  not_yes : (x : DAnswer) → (DerivationAnswers spec d answer.Yes → ⊥) → DerivationAnswers spec d x → x ≡ answer.Yes → ⊥
  not_yes x none is same = none (subst (DerivationAnswers spec d) same is)

  derivation_texts : (t u : Text) (s r : Status) → s ≡ Rejected → r ≡ Rejected → ChecksDerivation spec d t s → ChecksDerivation spec d u r → t ≡ u
  derivation_texts t u s r is also (ChecksDerivation.accepted shown) other = let no : ⊥ = cc in absurd no
  derivation_texts t u s r is also (ChecksDerivation.rejected not why answers) (ChecksDerivation.accepted shown) = let no : ⊥ = cc in absurd no
  derivation_texts t u s r is also (ChecksDerivation.rejected not why answers) (ChecksDerivation.rejected not_ other others) =
      ap derivation_line (one_derivation_answer why other (not_yes why not answers) (not_yes other not_ others) answers others)

module _ (one_answer : (spec : Spec) (A : TreeAutomaton) (h : List ℕ) → HasOneAnswer spec A h) (spec : Spec) where
  automaton_texts : (A : TreeAutomaton) (h : List ℕ) (t u : Text) (s r : Status) → s ≡ Rejected → r ≡ Rejected → ChecksAutomaton spec A h t s → ChecksAutomaton spec A h u r → t ≡ u
  automaton_texts A h t u s r is also (ChecksAutomaton.accepted shown) other = let no : ⊥ = cc in absurd no
  automaton_texts A h t u s r is also (ChecksAutomaton.rejected not why answers) (ChecksAutomaton.accepted shown) = let no : ⊥ = cc in absurd no
  automaton_texts A h t u s r is also (ChecksAutomaton.rejected not why answers) (ChecksAutomaton.rejected not_ other others) = ap automaton_line (one_answer spec A h why other answers others)

  rejected_texts : (c : Certificate) (t u : Text) → Checks spec c t Rejected → Checks spec c u Rejected → t ≡ u
  rejected_texts (certificate.Unreachable i precise A h) t u one other = automaton_texts A h t u Rejected Rejected refl refl one other
  rejected_texts (certificate.Reachable d) t u one other = derivation_texts spec d t u Rejected Rejected refl refl one other

-- ---- one answer is named

module _ (one_spec : OneSpec) (one_spec_fault : OneFirstFault) (differ : SpelledNamesDiffer) (one_certificate : OneCertificate) (one_fault : OneFault) (one_verdict : LimitedVerdictsAreOne)
    (one_answer : (spec : Spec) (A : TreeAutomaton) (h : List ℕ) → HasOneAnswer spec A h) where
  outcomes_are_one : (limits : Limits) (spec : Spec) (t u : Text) (o p : Outcome) → Completes spec limits t o → Completes spec limits u p → Agree t (status_of o) u (status_of p)
  outcomes_are_one limits spec t u o p one other =
      let are = one_verdict spec limits o p (one.options, one.same_limits, one.verdict) (other.options, other.same_limits, other.verdict) in
      (one_status o p are, subst (λ x. AreOneText x u) (sym one.is_text) (subst (AreOneText (certificate_text spec o)) (sym other.is_text) (AreOneText.chosen spec are)))

  verdicts_are_one : (limits : Limits) (spec : Spec) (t : Text) (s : Status) (u : Text) (r : Status) → SaysVerdict spec limits t s → SaysVerdict spec limits u r → Agree t s u r
  verdicts_are_one limits spec t s u r (SaysVerdict.verdict o one) (SaysVerdict.verdict p other) = outcomes_are_one limits spec t u o p one other

  module _ (spec : Spec) (is_signature : IsSignature spec.signature) (name bytes : Text) where
    abbrev ByBytes : Text → Status → Type 0
    ByBytes = NamedByCertificate spec name bytes

    certificates_are_one : (t : Text) (s : Status) (u : Text) (r : Status) → ByBytes t s → ByBytes u r → Agree t s u r
    certificates_are_one t s u r (NamedByCertificate.too_long long) (NamedByCertificate.too_long more) = (refl, AreOneText.same)
    certificates_are_one t s u r (NamedByCertificate.too_long long) (NamedByCertificate.bad short none first) = absurd (omega (arith, long, short))
    certificates_are_one t s u r (NamedByCertificate.too_long long) (NamedByCertificate.accepted short reads is) = absurd (omega (arith, long, short))
    certificates_are_one t s u r (NamedByCertificate.too_long long) (NamedByCertificate.rejected short reads rejects) = absurd (omega (arith, long, short))
    certificates_are_one t s u r (NamedByCertificate.bad short none first) (NamedByCertificate.too_long long) = absurd (omega (arith, long, short))
    certificates_are_one t s u r (NamedByCertificate.bad short none first) (NamedByCertificate.bad few also other) =
        (refl, one_text (cert_fault_line _) (cert_fault_line _) (ap cert_fault_line (one_fault spec bytes _ _ first other)))
    certificates_are_one t s u r (NamedByCertificate.bad short none first) (NamedByCertificate.accepted few reads is) = absurd (none _ reads)
    certificates_are_one t s u r (NamedByCertificate.bad short none first) (NamedByCertificate.rejected few reads rejects) = absurd (none _ reads)
    certificates_are_one t s u r (NamedByCertificate.accepted short reads is) (NamedByCertificate.too_long long) = absurd (omega (arith, long, short))
    certificates_are_one t s u r (NamedByCertificate.accepted short reads is) (NamedByCertificate.bad few none first) = absurd (none _ reads)
    certificates_are_one t s u r (NamedByCertificate.accepted short reads is) (NamedByCertificate.accepted few other also) =
        (refl, one_text (accepted_text _) (accepted_text _) (ap accepted_text (one_certificate spec bytes _ _ is_signature reads other)))
    certificates_are_one t s u r (NamedByCertificate.accepted short reads is) (NamedByCertificate.rejected few other rejects) =
        absurd (not_shown spec _ u rejects (subst (IsShown spec) (one_certificate spec bytes _ _ is_signature reads other) is))
    certificates_are_one t s u r (NamedByCertificate.rejected short reads rejects) (NamedByCertificate.too_long long) = absurd (omega (arith, long, short))
    certificates_are_one t s u r (NamedByCertificate.rejected short reads rejects) (NamedByCertificate.bad few none first) = absurd (none _ reads)
    certificates_are_one t s u r (NamedByCertificate.rejected short reads rejects) (NamedByCertificate.accepted few other is) =
        absurd (not_shown spec _ t rejects (subst (IsShown spec) (one_certificate spec bytes _ _ is_signature other reads) is))
    certificates_are_one t s u r (NamedByCertificate.rejected short reads rejects) (NamedByCertificate.rejected few other also) =
        (refl, one_text t u (rejected_texts one_answer spec _ t u rejects (subst (λ c. Checks spec c u Rejected) (one_certificate spec bytes _ _ is_signature other reads) also)))

  module _ (Further : Spec → Text → Status → Type 0) (name bytes : Text) (agree : (spec : Spec) → SpecText bytes spec → (t : Text) (s : Status) (u : Text) (r : Status) → Further spec t s → Further spec u r → Agree t s u r) where
    abbrev BySpec : Text → Status → Type 0
    BySpec = NamedBySpec Further name bytes

    specs_are_one : (t : Text) (s : Status) (u : Text) (r : Status) → BySpec t s → BySpec u r → Agree t s u r
    specs_are_one t s u r (NamedBySpec.too_long long) (NamedBySpec.too_long more) = (refl, AreOneText.same)
    specs_are_one t s u r (NamedBySpec.too_long long) (NamedBySpec.bad short none first) = absurd (omega (arith, long, short))
    specs_are_one t s u r (NamedBySpec.too_long long) (NamedBySpec.good short spelled further) = absurd (omega (arith, long, short))
    specs_are_one t s u r (NamedBySpec.bad short none first) (NamedBySpec.too_long long) = absurd (omega (arith, long, short))
    specs_are_one t s u r (NamedBySpec.bad short none first) (NamedBySpec.bad few also other) = (refl, one_text (fault_line _) (fault_line _) (ap fault_line (one_spec_fault bytes _ _ first other)))
    specs_are_one t s u r (NamedBySpec.bad short none first) (NamedBySpec.good few spelled further) = absurd (none _ spelled)
    specs_are_one t s u r (NamedBySpec.good short spelled further) (NamedBySpec.too_long long) = absurd (omega (arith, long, short))
    specs_are_one t s u r (NamedBySpec.good short spelled further) (NamedBySpec.bad few none first) = absurd (none _ spelled)
    specs_are_one t s u r (NamedBySpec.good short spelled further) (NamedBySpec.good few other more) =
        agree _ spelled t s u r further (subst (λ x. Further x u r) (one_spec bytes _ _ other spelled) more)

  module _ (Further : Text → Text → Status → Type 0) (given : Option Text) (agree : (bytes : Text) (t : Text) (s : Status) (u : Text) (r : Status) → Further bytes t s → Further bytes u r → Agree t s u r) where
    files_are_one : (t : Text) (s : Status) (u : Text) (r : Status) → NamedByFile Further given t s → NamedByFile Further given u r → Agree t s u r
    files_are_one t s u r one other =
        let same : other.0 ≡ one.0 = some_once (sym other.1 ∙ one.1) in
        agree one.0 t s u r one.2 (subst (λ x. Further x u r) same other.2)

  commands_are_one : (given : Text → Option Text) (command : Command) (t : Text) (s : Status) (u : Text) (r : Status) → NamedByCommand given command t s → NamedByCommand given command u r → Agree t s u r
  commands_are_one given (complete file limits) t s u r one other =
      files_are_one (NamedBySpec (λ spec. SaysVerdict spec limits) file) (given file) (λ bytes. specs_are_one (λ spec. SaysVerdict spec limits) file bytes (λ spec spelled. verdicts_are_one limits spec)) t s u r one other
  commands_are_one given (check spec cert) t s u r one other =
      files_are_one (NamedBySpec (λ x. NamedByFile (NamedByCertificate x cert) (second_of given spec cert)) spec) (given spec)
      (λ bytes. specs_are_one (λ x. NamedByFile (NamedByCertificate x cert) (second_of given spec cert)) spec bytes
      (λ x spelled. files_are_one (NamedByCertificate x cert) (second_of given spec cert) (certificates_are_one x (differ bytes x spelled).0 cert))) t s u r one other

  pub one_is_named : OneIsNamed
  one_is_named words given t u s r (Named.bad_words none) (Named.bad_words also) = (refl, AreOneText.same)
  one_is_named words given t u s r (Named.bad_words none) (Named.by_command command is named) = let no : ⊥ = cc in absurd no
  one_is_named words given t u s r (Named.by_command command is named) (Named.bad_words none) = let no : ⊥ = cc in absurd no
  one_is_named words given t u s r (Named.by_command command is named) (Named.by_command another also other) =
      let same : another ≡ command = some_once (sym also ∙ is) in
      commands_are_one given command t s u r named (subst (λ c. NamedByCommand given c u r) same other)

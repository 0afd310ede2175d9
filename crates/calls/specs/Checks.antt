-- What `check` answers to a certificate (Feuillade, Genet and Viet Triem Tong, JAR 2004; the order of the parts is this project's own).
use Rattle.std.specs.Prelude.{ℕ, List, codes}
use Rattle.ranked_terms.specs.declared.term.Term.{Term}
use Rattle.trs_rules.specs.declared.derivation.Derivation.{Derivation}
use Rattle.ta_core.specs.TreeAutomaton.{TreeAutomaton}
use Rattle.ta_core.specs.Acceptance.{IsAccepted}
use Rattle.ta_core.specs.Reachability.{Reachable, Forbidden, Replays}
use Rattle.ta_core.specs.declared.spec.Spec.{Spec}
use Rattle.closure_check.specs.Answers.{Answers}
use Rattle.closure_check.specs.Replaying.{DerivationAnswers, ReachesForbidden}
use Rattle.closure_check.specs.declared.answer.Answer.{Answer}
use Rattle.closure_check.specs.declared.replaying.DAnswer.{DAnswer}
use Rattle.cert_text.specs.declared.certificate.Certificate.{Certificate}
use Rattle.cert_text.specs.declared.certificate.Certificate.TheVariants as certificate
use Rattle.calls.specs.AnswerText.{automaton_line, derivation_line}
use Rattle.calls.specs.Contents.{OfSpec, OfCert, spec_limit, cert_limit}
use Rattle.calls.specs.Files.{Text, Reply, OfFile, Aside}
use Rattle.calls.specs.declared.status.Status.{Status}
use Rattle.calls.specs.declared.status.Status.TheVariants.{Accepted, Rejected}

-- ---- what a certificate shows

-- the automaton contains the initial one, is closed under the rules and misses the forbidden language; so no term that is reachable, in whatever number of
-- steps, is forbidden
pub record IsShownSafe (spec : Spec) (A : TreeAutomaton) (h : List ℕ) : Type 0 where
  pub accepted : IsAccepted spec A h
  pub safe : (t : Term) → Reachable spec t → Forbidden spec t → ⊥

-- the derivation replays; so a forbidden term is reachable
pub record IsShownReached (spec : Spec) (d : Derivation) : Type 0 where
  pub replays : Replays spec d
  pub reaches : ReachesForbidden spec

-- ---- the answers

-- an automaton with its map is accepted, or else the first part that fails is told
pub data ChecksAutomaton (spec : Spec) (A : TreeAutomaton) (h : List ℕ) : Text → Status → Type 0 where
  accepted : IsShownSafe spec A h → ChecksAutomaton spec A h (codes "Accepted unreachable\n") Accepted
  rejected : (IsAccepted spec A h → ⊥) → (why : Answer) → Answers spec A h why → ChecksAutomaton spec A h (automaton_line why) Rejected

-- a derivation replays, or else the first part that fails is told
pub data ChecksDerivation (spec : Spec) (d : Derivation) : Text → Status → Type 0 where
  accepted : IsShownReached spec d → ChecksDerivation spec d (codes "Accepted reachable\n") Accepted
  rejected : (Replays spec d → ⊥) → (why : DAnswer) → DerivationAnswers spec d why → ChecksDerivation spec d (derivation_line why) Rejected

abbrev pub Checks : Spec → Certificate → Text → Status → Type 0
Checks spec (certificate.Unreachable rounds precise A h) = ChecksAutomaton spec A h
Checks spec (certificate.Reachable d) = ChecksDerivation spec d

-- ---- the command

-- the certificate of a file, beside a specification
abbrev pub ChecksCertificate : Spec → Text → Reply
ChecksCertificate s cert = OfFile cert cert_limit (λ others. OfCert s others (λ c. Aside (Checks s c)))

-- `check SPEC CERT`: both files, each read whole and understood before the next
abbrev pub ChecksFiles : Text → Text → Reply
ChecksFiles spec cert = OfFile spec spec_limit (λ bytes. OfSpec bytes (λ s. ChecksCertificate s cert))

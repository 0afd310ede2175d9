-- What an outcome shows, and that its text is a certificate of it (Feuillade, Genet and Viet Triem Tong, JAR 2004; the text is this project's own format).
use Rattle.ranked_terms.specs.declared.term.Term.{Term}
use Rattle.std.specs.Prelude.{ℕ, List}
use Rattle.ta_core.specs.TreeAutomaton.{TreeAutomaton}
use Rattle.ta_core.specs.Languages.{Accepts}
use Rattle.ta_core.specs.Acceptance.{IsAccepted}
use Rattle.ta_core.specs.Reachability.{Reachable, Forbidden, Replays}
use Rattle.ta_core.specs.declared.spec.Spec.{Spec}
use Rattle.cert_text.specs.Certificates.{certificate_text, CertificateReads}
use Rattle.cert_text.specs.declared.certificate.Certificate.{Certificate}
use Rattle.cert_text.specs.declared.certificate.Certificate.TheVariants as certificate
use Rattle.cert_text.specs.declared.outcome.Outcome.{Outcome}
use Rattle.cert_text.specs.declared.outcome.Outcome.TheVariants as outcome

-- ---- what is shown

-- the automaton contains the initial one, is closed under the rules and misses the forbidden language; it accepts each term that is reachable, in whatever number
-- of steps, and none of these is forbidden
pub record IsSafe (spec : Spec) (A : TreeAutomaton) (h : List ℕ) : Type 0 where
  pub accepted : IsAccepted spec A h
  pub contains : (t : Term) → Reachable spec t → Accepts A t
  pub safe : (t : Term) → Reachable spec t → Forbidden spec t → ⊥

-- the automaton shows that nothing forbidden is reachable, or the derivation leads from a term of the initial language to a forbidden one, or nothing is settled
abbrev pub Shows : Spec → Outcome → Type 0
Shows spec (outcome.Unreachable i precise A h) = IsSafe spec A h
Shows spec (outcome.Reachable d) = Replays spec d
Shows spec (outcome.Undecided why search) = Unit {0}

-- ---- what can be checked

-- what is claimed holds: this is what `check` asks of a certificate
abbrev pub IsShown : Spec → Certificate → Type 0
IsShown spec (certificate.Unreachable i precise A h) = IsAccepted spec A h
IsShown spec (certificate.Reachable d) = Replays spec d

-- the text of the outcome is this certificate, whose claim holds
pub record IsCertified (spec : Spec) (o : Outcome) (c : Certificate) : Type 0 where
  pub reads : CertificateReads spec (certificate_text spec o) c
  pub shown : IsShown spec c

-- so the text of each outcome that settles something is the certificate of what it settles
abbrev pub IsCheckable : Spec → Outcome → Type 0
IsCheckable spec (outcome.Unreachable i precise A h) = IsCertified spec (outcome.Unreachable i precise A h) (certificate.Unreachable i precise A h)
IsCheckable spec (outcome.Reachable d) = IsCertified spec (outcome.Reachable d) (certificate.Reachable d)
IsCheckable spec (outcome.Undecided why search) = Unit {0}

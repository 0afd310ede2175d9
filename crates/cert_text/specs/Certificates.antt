-- The text of an outcome, and what certificate a text is. This project's own format.
use Rattle.std.specs.Prelude.{◌≡◌, ℕ, ◌≤◌, Bool, true, false, ◌&&◌, List, [], ◌∷◌, ◌++◌, length, map, All, Contains, IsTrue, codes}
use Rattle.std.specs.List.{list_all}
use Rattle.std.specs.Ordering.{nat_cmp}
use Rattle.std.specs.List.Sorted.{IsStrictlySortedBy}
use Rattle.ranked_terms.specs.Names.{Symbol}
use Rattle.ranked_terms.specs.Terms.{is_over, size_of}
use Rattle.ranked_terms.specs.declared.term.Term.{Term}
use Rattle.ta_core.specs.declared.spec.Spec.{Spec}
use Rattle.ta_core.specs.declared.trans.Trans.{Trans}
use Rattle.ta_core.specs.TreeAutomaton.{TreeAutomaton, IsKept, trans_cmp, pair_cmp}
use Rattle.ta_core.specs.SpecRules.{automaton_is_over}
use Rattle.trs_rules.specs.declared.derivation.DStep.{DStep}
use Rattle.trs_rules.specs.declared.derivation.Derivation.{Derivation}
use Rattle.ta_clean.specs.declared.witness.Least.{Least}
use Rattle.ta_clean.specs.declared.witness.Least.TheVariants as least
use Rattle.cert_text.specs.declared.outcome.Reason.{Reason}
use Rattle.cert_text.specs.declared.outcome.Reason.TheVariants as reason
use Rattle.cert_text.specs.declared.outcome.Mark.{Mark}
use Rattle.cert_text.specs.declared.outcome.Mark.TheVariants as mark
use Rattle.cert_text.specs.declared.outcome.Outcome.{Outcome}
use Rattle.cert_text.specs.declared.outcome.Outcome.TheVariants as outcome
use Rattle.cert_text.specs.declared.certificate.Certificate.{Certificate}
use Rattle.cert_text.specs.declared.certificate.Certificate.TheVariants as certificate
use Rattle.ranked_terms.specs.Texts.{Text, number_word, symbol_text, term_text}
use Rattle.cert_text.specs.Words.{Words, text_of}
use Rattle.cert_text.specs.Lines as line
use Rattle.cert_text.specs.Lines.{Line, words_of}

-- ---- the lines of a certificate

abbrev pub note_lines : Bool → List Line
note_lines true = line.precise ∷ []
note_lines false = []

abbrev pub trans_line : List Symbol → Trans → Line
trans_line s t = line.trans (symbol_text s t.sym) t.args t.to

abbrev pub automaton_lines : List Symbol → TreeAutomaton → List ℕ → List Line
automaton_lines s A h = line.next A.next ∷ line.states A.states ∷ line.finals A.finals ∷ line.maps h ∷ (map (trans_line s) A.trans ++ map (λ e. line.eps e.0 e.1) A.eps)

abbrev pub step_line : List Symbol → DStep → Line
step_line s d = line.step d.rule d.at (term_text s d.term)

-- what stands between the head and the end
abbrev pub claim_lines : List Symbol → ℕ → Bool → TreeAutomaton → List ℕ → List Line
claim_lines s i precise A h = line.unreachable ∷ line.rounds i ∷ (note_lines precise ++ automaton_lines s A h)

abbrev pub path_lines : List Symbol → Derivation → List Line
path_lines s d = line.reachable ∷ line.start (term_text s d.start) ∷ map (step_line s) d.steps

abbrev pub certificate_lines : List Symbol → Certificate → List Line
certificate_lines s (certificate.Unreachable i precise A h) = line.head ∷ (claim_lines s i precise A h ++ line.end ∷ [])
certificate_lines s (certificate.Reachable d) = line.head ∷ (path_lines s d ++ line.end ∷ [])

abbrev pub words_of_all : List Symbol → Certificate → List Words
words_of_all s c = map words_of (certificate_lines s c)

-- ---- the text of an outcome

abbrev pub least_word : List Symbol → Least → Text
least_word s (least.Term t) = term_text s t
least_word s least.Large = codes "large"

abbrev pub reason_words : List Symbol → Reason → Words
reason_words s (reason.Meets i t) = codes "Reason" ∷ codes "meets" ∷ number_word i ∷ least_word s t ∷ []
reason_words s (reason.Rounds i) = codes "Reason" ∷ codes "rounds" ∷ number_word i ∷ []
reason_words s (reason.Pairs i) = codes "Reason" ∷ codes "pairs" ∷ number_word i ∷ []
reason_words s (reason.States i) = codes "Reason" ∷ codes "states" ∷ number_word i ∷ []

abbrev pub mark_words : Mark → Words
mark_words (mark.Exhausted k) = codes "Search" ∷ codes "exhausted" ∷ number_word k ∷ []
mark_words (mark.Over j) = codes "Search" ∷ codes "over" ∷ number_word j ∷ []

abbrev pub undecided_words : Words
undecided_words = codes "Verdict" ∷ codes "undecided" ∷ []

-- what stands between the head and the end
abbrev pub middle_words : List Symbol → Outcome → List Words
middle_words s (outcome.Unreachable i precise A h) = map words_of (claim_lines s i precise A h)
middle_words s (outcome.Reachable d) = map words_of (path_lines s d)
middle_words s (outcome.Undecided why search) = undecided_words ∷ reason_words s why ∷ mark_words search ∷ []

abbrev pub outcome_words : List Symbol → Outcome → List Words
outcome_words s o = words_of line.head ∷ (middle_words s o ++ words_of line.end ∷ [])

abbrev pub certificate_text : Spec → Outcome → Text
certificate_text spec o = text_of (outcome_words spec.signature o)

-- each symbol of the outcome is in the signature, with as many arguments as its arity says
abbrev pub derivation_is_over : List Symbol → Derivation → Bool
derivation_is_over s d = is_over s d.start && list_all (λ step. is_over s step.term) d.steps

abbrev pub least_is_over : List Symbol → Least → Bool
least_is_over s (least.Term t) = is_over s t
least_is_over s least.Large = true

abbrev pub reason_is_over : List Symbol → Reason → Bool
reason_is_over s (reason.Meets i t) = least_is_over s t
reason_is_over s _ = true

abbrev pub outcome_is_over : List Symbol → Outcome → Bool
outcome_is_over s (outcome.Unreachable i precise A h) = automaton_is_over s A
outcome_is_over s (outcome.Reachable d) = derivation_is_over s d
outcome_is_over s (outcome.Undecided why search) = reason_is_over s why

-- ---- reading

-- a term that a certificate may have
pub record IsCertTerm (signature : List Symbol) (t : Term) : Type 0 where
  pub over : IsTrue (is_over signature t)
  pub small : size_of t ≤ 1024

pub record IsCertStep (signature : List Symbol) (d : DStep) : Type 0 where
  pub rule : d.rule ≤ 4095
  pub deep : length d.at ≤ 1024
  pub places : All line.IsPlace d.at
  pub term : IsCertTerm signature d.term

pub record IsClaim (spec : Spec) (i : ℕ) (A : TreeAutomaton) (h : List ℕ) : Type 0 where
  pub rounds : i ≤ 1000
  pub over : IsTrue (automaton_is_over spec.signature A)
  pub kept : IsKept A
  pub states : IsStrictlySortedBy nat_cmp A.states
  pub finals : IsStrictlySortedBy nat_cmp A.finals
  pub trans : IsStrictlySortedBy trans_cmp A.trans
  pub eps : IsStrictlySortedBy pair_cmp A.eps
  pub each_state : length h ≡ length spec.initial.states
  pub images : All (Contains A.states) h

pub record IsPath (spec : Spec) (d : Derivation) : Type 0 where
  pub start : IsCertTerm spec.signature d.start
  pub few : length d.steps ≤ 100
  pub steps : All (IsCertStep spec.signature) d.steps

-- the bounds of a certificate
abbrev pub IsWithin : Spec → Certificate → Type 0
IsWithin spec (certificate.Unreachable i precise A h) = IsClaim spec i A h
IsWithin spec (certificate.Reachable d) = IsPath spec d

-- the bytes are the text of the certificate, which is within its bounds
pub record CertificateReads (spec : Spec) (bytes : Text) (c : Certificate) : Type 0 where
  pub told : bytes ≡ text_of (words_of_all spec.signature c)
  pub within : IsWithin spec c

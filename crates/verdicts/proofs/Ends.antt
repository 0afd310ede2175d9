-- What the ends of the search and of completion bring with them.
use Rattle.std.proofs.Common.{◌≡◌, ℕ, ◌≤◌, IsTrue, List, length, refl, subst, arith}
use Rattle.ranked_terms.specs.Terms.{height_of}
use Rattle.trs_rules.specs.declared.derivation.Derivation.{Derivation}
use Rattle.ta_core.specs.TreeAutomaton.{TreeAutomaton}
use Rattle.ta_core.specs.Reachability.{Replays}
use Rattle.ta_core.specs.declared.spec.Spec.{Spec}
use Rattle.ta_core.specs.declared.options.Options.{Options}
use Rattle.ta_clean.specs.declared.witness.Least.{Least}
use Rattle.ta_clean.specs.declared.witness.Least.TheVariants as least
use Rattle.derive_search.specs.Search.{IsOver, GoesOnTo, SearchAnswer}
use Rattle.derive_search.specs.declared.bounded.SearchEnd.{SearchEnd}
use Rattle.derive_search.specs.declared.bounded.SearchEnd.TheVariants as search
use Rattle.completion.specs.Stages.{IsLeastMet, EndsAt, Ends}
use Rattle.completion.specs.declared.end.StageEnd.{StageEnd}
use Rattle.completion.specs.declared.end.StageEnd.TheVariants as end
use Rattle.cert_text.specs.Certificates.{least_is_over, reason_is_over}
use Rattle.cert_text.specs.declared.outcome.Reason.{Reason}
use Rattle.cert_text.specs.declared.outcome.Reason.TheVariants as reason
use Rattle.verdicts.specs.Verdicts.{stage_end}

-- ---- the search

-- a derivation that is found
pub record IsFound (spec : Spec) (options : Options) (d : Derivation) : Type 0 where
  pub few : length d.steps ≤ options.steps
  pub goes : GoesOnTo spec options (length d.steps)
  pub within : IsOver spec options (length d.steps) → ⊥
  pub low : height_of d.start ≤ options.height
  pub replays : Replays spec d

module _ (spec : Spec) (options : Options) where
  found_by : {e : SearchEnd} → SearchAnswer spec options e → (d : Derivation) → e ≡ search.Found d → IsFound spec options d
  found_by (SearchAnswer.exhausted goes) d is = absurd (cc)
  found_by (SearchAnswer.over j few goes over) d is = absurd (cc)
  found_by (SearchAnswer.found other few goes within low replays) d is =
      let same : other ≡ d = cc in
      subst (IsFound spec options) same (record { few = few; goes = goes; within = within; low = low; replays = replays })

  pub found : (d : Derivation) → SearchAnswer spec options (search.Found d) → IsFound spec options d
  found d answer = found_by answer d refl

-- ---- completion

module _ (spec : Spec) (options : Options) where
  met : {i : ℕ} {A : TreeAutomaton} {h : List ℕ} {e : StageEnd} → EndsAt spec options i A h e → (j : ℕ) (w : Least) → e ≡ end.Meets j w → IsLeastMet spec A w
  met {A = A} (EndsAt.meets {w = v} m) j w is = let same : v ≡ w = cc in subst (IsLeastMet spec A) same m
  met (EndsAt.closed m c) j w is = absurd (cc)
  met (EndsAt.rounds m c r) j w is = absurd (cc)
  met (EndsAt.pairs m left are many) j w is = absurd (cc)
  met (EndsAt.states m left are few needs) j w is = absurd (cc)

  closed_number : {i : ℕ} {A : TreeAutomaton} {h : List ℕ} {e : StageEnd} → EndsAt spec options i A h e → (j : ℕ) → e ≡ end.Closed j → i ≡ j
  closed_number (EndsAt.meets m) j is = absurd (cc)
  closed_number (EndsAt.closed m c) j is = cc
  closed_number (EndsAt.rounds m c r) j is = absurd (cc)
  closed_number (EndsAt.pairs m left are many) j is = absurd (cc)
  closed_number (EndsAt.states m left are few needs) j is = absurd (cc)

  module _ (A : TreeAutomaton) (h : List ℕ) where
    -- the number of a closed stage
    pub few_rounds : (i : ℕ) → Ends spec options A h (end.Closed i) → i ≤ 1000
    few_rounds i e =
        let same = closed_number e.ends i refl in
        let within = e.within in
        let range = options.rounds_range in
        omega (arith, same, within, range)

    least_over : (w : Least) → IsLeastMet spec A w → IsTrue (least_is_over spec.signature w)
    least_over (least.Term t) m = m.is_least.has.accepted.over
    least_over least.Large m = refl

    -- a common term that is told is over the signature
    pub reason_over : (why : Reason) → Ends spec options A h (stage_end why) → IsTrue (reason_is_over spec.signature why)
    reason_over (reason.Meets i w) e = least_over w (met e.ends i w refl)
    reason_over (reason.Rounds i) e = refl
    reason_over (reason.Pairs i) e = refl
    reason_over (reason.States i) e = refl

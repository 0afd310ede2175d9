-- The answer for a specification: that its text is a certificate, and what it shows.
use Rattle.std.proofs.Common.{◌≡◌, ℕ, ◌≤◌, IsTrue, ◌↔◌, Bool, List, [], ◌∷◌, ◌++◌, map, take, length, All, Contains, refl, sym, ap, subst, ◌∙◌, arith}
use Rattle.std.proofs.lemmas.List.{length-take-le, get_or-take, map-append}
use Rattle.std.proofs.lemmas.List.FromFn.{length-range_with_len}
use Rattle.ranked_terms.specs.SignatureRules.{IsSignature}
use Rattle.ranked_terms.specs.declared.term.Term.{Term}
use Rattle.trs_rules.specs.Rules.{IsRule}
use Rattle.trs_rules.specs.declared.derivation.Derivation.{Derivation}
use Rattle.ta_core.specs.TreeAutomaton.{TreeAutomaton, IsKept}
use Rattle.ta_core.specs.Acceptance.{IsAccepted}
use Rattle.ta_core.specs.AcceptanceLaws.{ContainedKeepsAccepted}
use Rattle.ta_core.specs.ClosureLaws.{ClosedAcceptsReached}
use Rattle.ta_core.specs.Reachability.{Reachable, Forbidden}
use Rattle.ta_core.specs.declared.spec.Spec.{Spec}
use Rattle.ta_core.specs.declared.options.Options.{Options}
use Rattle.derive_search.specs.Search.{SearchAnswer}
use Rattle.derive_search.specs.declared.bounded.SearchEnd.TheVariants as search
use Rattle.completion.specs.Stages.{Ends}
use Rattle.completion.specs.Standing.{HasPlaces}
use Rattle.completion.specs.declared.end.StageEnd.{StageEnd}
use Rattle.completion.specs.declared.end.StageEnd.TheVariants as end
use Rattle.cert_text.specs.Words.{text_of}
use Rattle.cert_text.specs.Lines as line
use Rattle.cert_text.specs.Lines.{Line, words_of}
use Rattle.cert_text.specs.Certificates.{claim_lines, path_lines, IsClaim}
use Rattle.cert_text.specs.declared.outcome.Mark.{Mark}
use Rattle.cert_text.specs.declared.outcome.Reason.{Reason}
use Rattle.cert_text.specs.declared.outcome.Reason.TheVariants as reason
use Rattle.cert_text.specs.declared.outcome.Outcome.{Outcome}
use Rattle.cert_text.specs.declared.outcome.Outcome.TheVariants as outcome
use Rattle.verdicts.specs.Verdicts.{IsPrecise, Verdict, search_end, stage_end}
use Rattle.verdicts.specs.Answers.{IsAnswer, IsInOrder, Tells}
use Rattle.verdicts.proofs.Over.{stage_is_over}
use Rattle.verdicts.proofs.Ends.{found, few_rounds, reason_over}
use Rattle.verdicts.proofs.Paths.{Laws, path, path_over}

-- ---- texts

-- the words of lines between a head and an end
around : (ls : List Line) → map words_of (line.head ∷ (ls ++ line.end ∷ [])) ≡ words_of line.head ∷ (map words_of ls ++ words_of line.end ∷ [])
around ls = ap (λ ws. words_of line.head ∷ ws) (map-append words_of ls (line.end ∷ []))

-- ---- a derivation

pub derived : Laws → (spec : Spec) (options : Options) → IsSignature spec.signature → All IsRule spec.rules → length spec.rules ≤ 4096 → (d : Derivation) → SearchAnswer spec options (search.Found d) →
    IsAnswer spec options (outcome.Reachable d)
derived laws spec options is are few d answer =
    let f = found spec options d answer in record {
      verdict = Verdict.reachable answer;
      shows = f.replays;
      checkable = record {
        reads = record { told = ap text_of (sym (around (path_lines spec.signature d))); within = path laws spec options d f is are few };
        shown = f.replays;
      };
      over = path_over laws spec options d f is are few;
    }

-- ---- a closed stage

module _ (keeps : ContainedKeepsAccepted) (reached : ClosedAcceptsReached) (spec : Spec) (options : Options) (are : All IsRule spec.rules) (m : Mark) (searched : SearchAnswer spec options (search_end m))
    (A : TreeAutomaton) (h : List ℕ) (i : ℕ) (ends : Ends spec options A h (end.Closed i)) (is_kept : IsKept A) (order : IsInOrder A) (places : HasPlaces spec A h) where
  abbrev cut : List ℕ
  cut = take spec.initial.next h

  claim : IsClaim spec i A cut
  claim =
      let each = places.each in
      let long = length-take-le spec.initial.next h (omega (arith, each)) in
      let states = ap length spec.initial_states ∙ length-range_with_len 0 spec.initial.next in
      record {
        rounds = few_rounds spec options A h i ends;
        over = stage_is_over spec ends.number A h ends.stage;
        kept = is_kept;
        states = order.states;
        finals = order.finals;
        trans = order.trans;
        eps = order.eps;
        each_state = long ∙ sym states;
        images = λ k d l. subst (Contains A.states) (sym (get_or-take spec.initial.next h k d (omega (arith, l, long)))) (places.states k d (omega (arith, l, long, each)));
      }

  pub claimed : (precise : Bool) → (IsTrue precise ↔ IsPrecise spec) → IsAccepted spec A cut → ((t : Term) → Reachable spec t → Forbidden spec t → ⊥) → IsAnswer spec options (outcome.Unreachable i precise A cut)
  claimed precise noted accepted safe = record {
    verdict = Verdict.unreachable m h searched ends noted;
    shows = record {
      accepted = accepted;
      contains = λ t r. reached A spec.rules is_kept.sound are accepted.closed r.start t (keeps spec.initial A cut accepted.contained r.start r.begins.accepted) r.leads;
      safe = safe;
    };
    checkable = record {
      reads = record { told = ap text_of (sym (around (claim_lines spec.signature i precise A cut))); within = claim };
      shown = accepted;
    };
    over = stage_is_over spec ends.number A h ends.stage;
  }

-- ---- nothing is settled

pub unsettled : (spec : Spec) (options : Options) (m : Mark) → SearchAnswer spec options (search_end m) → (A : TreeAutomaton) (h : List ℕ) (why : Reason) → Ends spec options A h (stage_end why) →
    IsAnswer spec options (outcome.Undecided why m)
unsettled spec options m searched A h why ends =
    record { verdict = Verdict.undecided A h searched ends; shows = tt; checkable = tt; over = reason_over spec options A h why ends }

-- ---- what an end says

module _ (keeps : ContainedKeepsAccepted) (reached : ClosedAcceptsReached) (spec : Spec) (options : Options) (are : All IsRule spec.rules) (m : Mark) (searched : SearchAnswer spec options (search_end m))
    (A : TreeAutomaton) (h : List ℕ) (is_kept : IsKept A) (order : IsInOrder A) (places : HasPlaces spec A h) where
  pub answered : (e : StageEnd) → Ends spec options A h e → ((i : ℕ) → e ≡ end.Closed i → IsAccepted spec A (take spec.initial.next h)) →
      ((i : ℕ) → e ≡ end.Closed i → (t : Term) → Reachable spec t → Forbidden spec t → ⊥) → (o : Outcome) → Tells spec m A h e o → IsAnswer spec options o
  answered (end.Closed i) ends accepted safe o told =
      subst (IsAnswer spec options) (sym told.is)
      (claimed keeps reached spec options are m searched A h i ends is_kept order places told.precise told.noted (accepted i refl) (safe i refl))
  answered (end.Meets n l) ends accepted safe o told = subst (IsAnswer spec options) (sym told) (unsettled spec options m searched A h (reason.Meets n l) ends)
  answered (end.Rounds n) ends accepted safe o told = subst (IsAnswer spec options) (sym told) (unsettled spec options m searched A h (reason.Rounds n) ends)
  answered (end.Pairs n) ends accepted safe o told = subst (IsAnswer spec options) (sym told) (unsettled spec options m searched A h (reason.Pairs n) ends)
  answered (end.States n) ends accepted safe o told = subst (IsAnswer spec options) (sym told) (unsettled spec options m searched A h (reason.States n) ends)

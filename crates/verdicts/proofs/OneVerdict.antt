-- A verdict is one, but for the derivation and the common term that are told.
use Rattle.std.proofs.Common.{◌≡◌, ◌↔◌, ℕ, ◌<◌, ◌≤◌, Bool, true, false, true≢false, IsTrue, List, take, length, refl, sym, ap, subst, ◌∙◌}
use Rattle.trs_rules.specs.declared.derivation.Derivation.{Derivation}
use Rattle.ta_core.specs.TreeAutomaton.{TreeAutomaton}
use Rattle.ta_core.specs.declared.spec.Spec.{Spec}
use Rattle.ta_core.specs.declared.options.Options.{Options}
use Rattle.normalise.specs.Normalising.{NeedMoreFor}
use Rattle.derive_search.specs.Search.{SearchAnswer}
use Rattle.derive_search.specs.Laws.{IsSameEnd, AnswersAreOne}
use Rattle.derive_search.specs.declared.bounded.SearchEnd.{SearchEnd}
use Rattle.derive_search.specs.declared.bounded.SearchEnd.TheVariants as search
use Rattle.completion.specs.Stages.{EndsAt, Ends, context_of}
use Rattle.completion.specs.StagesLaws.{AreOneEnd, EndsAreOne}
use Rattle.completion.specs.declared.end.StageEnd.{StageEnd}
use Rattle.completion.specs.declared.end.StageEnd.TheVariants as end
use Rattle.command_words.specs.Words.{Limits}
use Rattle.command_words.specs.Said.{limits_from}
use Rattle.cert_text.specs.declared.outcome.Mark.{Mark}
use Rattle.cert_text.specs.declared.outcome.Mark.TheVariants as mark
use Rattle.cert_text.specs.declared.outcome.Reason.{Reason}
use Rattle.cert_text.specs.declared.outcome.Reason.TheVariants as reason
use Rattle.cert_text.specs.declared.outcome.Outcome.{Outcome}
use Rattle.cert_text.specs.declared.outcome.Outcome.TheVariants as outcome
use Rattle.verdicts.specs.Verdicts.{IsPrecise, Verdict, search_end, stage_end}
use Rattle.verdicts.specs.VerdictLaws.{AreOneOutcome, VerdictsAreOne, LimitedVerdictsAreOne}
use Rattle.verdicts.proofs.SearchEnds.{searched_by_limits}

-- ---- ends of the search

found_is_not : {a b : SearchEnd} → IsSameEnd a b → (d : Derivation) (m : Mark) → a ≡ search.Found d → b ≡ search_end m → ⊥
found_is_not (IsSameEnd.found x y long) d (mark.Exhausted k) is other = cc
found_is_not (IsSameEnd.found x y long) d (mark.Over k) is other = cc
found_is_not (IsSameEnd.exhausted steps) d m is other = cc
found_is_not (IsSameEnd.over steps) d m is other = cc

not_found : {a b : SearchEnd} → IsSameEnd a b → (d : Derivation) (m : Mark) → a ≡ search_end m → b ≡ search.Found d → ⊥
not_found (IsSameEnd.found x y long) d (mark.Exhausted k) is other = cc
not_found (IsSameEnd.found x y long) d (mark.Over k) is other = cc
not_found (IsSameEnd.exhausted steps) d m is other = cc
not_found (IsSameEnd.over steps) d m is other = cc

one_length : {a b : SearchEnd} → IsSameEnd a b → (d e : Derivation) → a ≡ search.Found d → b ≡ search.Found e → length d.steps ≡ length e.steps
one_length (IsSameEnd.found x y long) d e is other =
    let first : x ≡ d = cc in
    let second : y ≡ e = cc in
    ap (λ (z : Derivation). length z.steps) (sym first) ∙ (long ∙ ap (λ (z : Derivation). length z.steps) second)
one_length (IsSameEnd.exhausted steps) d e is other = absurd (cc)
one_length (IsSameEnd.over steps) d e is other = absurd (cc)

marks : (m n : Mark) → search_end m ≡ search_end n → m ≡ n
marks (mark.Exhausted j) (mark.Exhausted k) e = let same : j ≡ k = cc in ap mark.Exhausted same
marks (mark.Exhausted j) (mark.Over k) e = absurd (cc)
marks (mark.Over j) (mark.Exhausted k) e = absurd (cc)
marks (mark.Over j) (mark.Over k) e = let same : j ≡ k = cc in ap mark.Over same

no_mark : (d : Derivation) (m : Mark) → search.Found d ≡ search_end m → ⊥
no_mark d (mark.Exhausted k) e = cc
no_mark d (mark.Over k) e = cc

one_mark : {a b : SearchEnd} → IsSameEnd a b → (m n : Mark) → a ≡ search_end m → b ≡ search_end n → m ≡ n
one_mark (IsSameEnd.found x y long) m n is other = absurd (no_mark x m is)
one_mark (IsSameEnd.exhausted steps) m n is other = marks m n (sym is ∙ other)
one_mark (IsSameEnd.over steps) m n is other = marks m n (sym is ∙ other)

-- ---- ends of completion

closed_is_no_reason : (i : ℕ) (why : Reason) → end.Closed i ≡ stage_end why → ⊥
closed_is_no_reason i (reason.Meets j w) e = cc
closed_is_no_reason i (reason.Rounds j) e = cc
closed_is_no_reason i (reason.Pairs j) e = cc
closed_is_no_reason i (reason.States j) e = cc

-- an end at a closed stage is that one
closed_alone : {a b : StageEnd} → AreOneEnd a b → (i : ℕ) → a ≡ end.Closed i → b ≡ end.Closed i
closed_alone AreOneEnd.same i is = is
closed_alone (AreOneEnd.meets size) i is = absurd (cc)

alone_closed : {a b : StageEnd} → AreOneEnd a b → (i : ℕ) → b ≡ end.Closed i → a ≡ end.Closed i
alone_closed AreOneEnd.same i is = is
alone_closed (AreOneEnd.meets size) i is = absurd (cc)

one_note : (spec : Spec) (p q : Bool) → IsTrue p ↔ IsPrecise spec → IsTrue q ↔ IsPrecise spec → p ≡ q
one_note spec true true a b = refl
one_note spec true false a b = absurd (true≢false (sym (b.1 (a.0 refl))))
one_note spec false true a b = absurd (true≢false (sym (a.1 (b.0 refl))))
one_note spec false false a b = refl

-- ---- verdicts

module _ (searches : AnswersAreOne) (one : EndsAreOne) (spec : Spec) (options : Options) where
  same_end : {x y : SearchEnd} → SearchAnswer spec options x → SearchAnswer spec options y → IsSameEnd x y
  same_end {x = x} {y = y} a b = searches spec options x y a b

  one_verdict : {o p : Outcome} → Verdict spec options o → Verdict spec options p → AreOneOutcome o p
  one_verdict (Verdict.reachable {d = d} a) (Verdict.reachable {d = e} b) = AreOneOutcome.derivations (one_length (same_end a b) d e refl refl)
  one_verdict (Verdict.reachable {d = d} a) (Verdict.unreachable m h b ends noted) = absurd (found_is_not (same_end a b) d m refl refl)
  one_verdict (Verdict.reachable {d = d} a) (Verdict.undecided {m = m} A h b ends) = absurd (found_is_not (same_end a b) d m refl refl)
  one_verdict (Verdict.unreachable m h a ends noted) (Verdict.reachable {d = d} b) = absurd (not_found (same_end a b) d m refl refl)
  one_verdict (Verdict.unreachable {i = i} {precise = p} {A = A} m h a ends noted) (Verdict.unreachable {i = j} {precise = q} {A = B} n g b ending note) =
      let e = one spec options A B h g (end.Closed i) (end.Closed j) ends ending in
      let number : j ≡ i = let k = closed_alone e.2 i refl in cc in
      let precise = one_note spec p q noted note in
      subst (AreOneOutcome (outcome.Unreachable i p A (take spec.initial.next h)))
      (λ x. outcome.Unreachable (sym number x) (precise x) (e.0 x) (take spec.initial.next (e.1 x))) AreOneOutcome.same
  one_verdict (Verdict.unreachable {i = i} {A = A} m h a ends noted) (Verdict.undecided {why = why} B g b ending) =
      absurd (closed_is_no_reason i why (sym (closed_alone (one spec options A B h g (end.Closed i) (stage_end why) ends ending).2 i refl)))
  one_verdict (Verdict.undecided {m = m} A h a ends) (Verdict.reachable {d = d} b) = absurd (not_found (same_end a b) d m refl refl)
  one_verdict (Verdict.undecided {why = why} A h a ends) (Verdict.unreachable {i = i} {A = B} m g b ending noted) =
      absurd (closed_is_no_reason i why (sym (alone_closed (one spec options A B h g (stage_end why) (end.Closed i) ends ending).2 i refl)))
  one_verdict (Verdict.undecided {m = m} {why = why} A h a ends) (Verdict.undecided {m = n} {why = other} B g b ending) =
      let marked = one_mark (same_end a b) m n refl refl in
      let e = one spec options A B h g (stage_end why) (stage_end other) ends ending in
      subst (λ x. AreOneOutcome (outcome.Undecided why m) (outcome.Undecided other x)) marked (AreOneOutcome.witnesses e.2)

pub verdicts_are_one : AnswersAreOne → EndsAreOne → VerdictsAreOne
verdicts_are_one searches one spec options o p a b = one_verdict searches one spec options a b

-- ---- only the limits matter

module _ (spec : Spec) (o p : Options) (rounds : o.rounds ≡ p.rounds) (pairs : o.pairs ≡ p.pairs) (states : o.states ≡ p.states) where
  ends_there : {i : ℕ} {A : TreeAutomaton} {h : List ℕ} {e : StageEnd} → EndsAt spec o i A h e → EndsAt spec p i A h e
  ends_there (EndsAt.meets m) = EndsAt.meets m
  ends_there (EndsAt.closed m c) = EndsAt.closed m c
  ends_there (EndsAt.rounds m c e) = EndsAt.rounds m c (e ∙ rounds)
  ends_there (EndsAt.pairs {pairs = xs} m left are many) = EndsAt.pairs m (λ e. left (e ∙ sym rounds)) are (subst (λ n. n < length xs) pairs many)
  ends_there {A = A} {h = h} (EndsAt.states {pairs = xs} m left are few needs) =
      EndsAt.states m (λ e. left (e ∙ sym rounds)) are (subst (λ n. length xs ≤ n) pairs few) (subst (λ n. NeedMoreFor (context_of spec h) n A xs) states needs)

ended_by_limits : (spec : Spec) (o p : Options) → o.rounds ≡ p.rounds → o.pairs ≡ p.pairs → o.states ≡ p.states → {A : TreeAutomaton} {h : List ℕ} {e : StageEnd} → Ends spec o A h e → Ends spec p A h e
ended_by_limits spec o p rounds pairs states ends = record {
  number = ends.number;
  within = subst (λ n. ends.number ≤ n) rounds ends.within;
  stage = ends.stage;
  ends = ends_there spec o p rounds pairs states ends.ends;
  least = λ j B g less stage d at. ends.least j B g less stage d (ends_there spec p o (sym rounds) (sym pairs) (sym states) at);
}

-- a verdict by options of the same limits is one by these
module _ (spec : Spec) (o p : Options) (same : limits_from o ≡ limits_from p) where
  part : (f : Limits → ℕ) → f (limits_from o) ≡ f (limits_from p)
  part f = ap f same

  searched : {e : SearchEnd} → SearchAnswer spec o e → SearchAnswer spec p e
  searched answer = searched_by_limits spec o p (part (λ l. l.steps)) (part (λ l. l.height)) (part (λ l. l.terms)) answer

  ended : {A : TreeAutomaton} {h : List ℕ} {e : StageEnd} → Ends spec o A h e → Ends spec p A h e
  ended ends = ended_by_limits spec o p (part (λ l. l.rounds)) (part (λ l. l.pairs)) (part (λ l. l.states)) ends

  verdict_by_limits : {x : Outcome} → Verdict spec o x → Verdict spec p x
  verdict_by_limits (Verdict.reachable a) = Verdict.reachable (searched a)
  verdict_by_limits (Verdict.unreachable m h a ends noted) = Verdict.unreachable m h (searched a) (ended ends) noted
  verdict_by_limits (Verdict.undecided A h a ends) = Verdict.undecided A h (searched a) (ended ends)

pub limited_verdicts_are_one : VerdictsAreOne → LimitedVerdictsAreOne
limited_verdicts_are_one one spec limits o p a b = one spec a.0 o p a.2 (verdict_by_limits spec b.0 a.0 (b.1 ∙ sym a.1) b.2)

-- Rounds lead from stage to stage.
use Rattle.std.proofs.Common.{◌≡◌, ℕ, ◌+◌, ◌≤◌, List, take, refl, sym, subst, ◌∙◌, ⊎_elim, arith}
use Rattle.std.proofs.lemmas.Bool.{cases_lt}
use Rattle.ta_core.specs.TreeAutomaton.{TreeAutomaton}
use Rattle.ta_core.specs.Acceptance.{IsContained, IsAccepted}
use Rattle.ta_core.specs.declared.spec.Spec.{Spec}
use Rattle.ta_core.specs.declared.options.Options.{Options}
use Rattle.eq_merge.specs.Quotients.{apart}
use Rattle.completion.specs.Stages.{IsStage, EndsAt, GoesOn, GoesOnBefore, Ends, started}
use Rattle.completion.specs.StagesLaws.{StagesAreOne}
use Rattle.completion.specs.Standing.{Standing, IsMerged, IsResolved, IsPassed, StandsAt, Reaches}
use Rattle.completion.specs.declared.end.StageEnd.{StageEnd}
use Rattle.completion.specs.declared.end.StageEnd.TheVariants as end

-- ---- a round

pub passed : (s : Standing) (number : ℕ) (grown A : TreeAutomaton) (h : List ℕ) → GoesOn s.spec s.options number s.automaton s.places → IsResolved s grown → IsMerged s grown A h → IsPassed s number A h
passed s number grown A h goes_on r m = record {
  goes_on = goes_on;
  round = record { pairs = r.pairs; are_open = r.are_open; grown = grown; normalised = r.normalised; classes = m.classes; merged = m.merged; places = m.places };
}

-- ---- from stage to stage

pub stands_first : (s : Standing) → IsStage s.spec 0 s.automaton s.places → StandsAt s 0
stands_first s is = record { stage = is; before = λ j B g less stage. absurd (omega (arith, less)) }

pub stands_next : StagesAreOne → (s t : Standing) (n m : ℕ) → m ≡ n + 1 → t.spec ≡ s.spec → t.options ≡ s.options → StandsAt s n → IsPassed s n t.automaton t.places → StandsAt t m
stands_next stages s t n m next same_spec same_options at passed =
    let stage : IsStage s.spec m t.automaton t.places = subst (λ k. IsStage s.spec k t.automaton t.places) (sym next) (IsStage.round at.stage passed.round) in
    record {
      stage = subst (λ spec. IsStage spec m t.automaton t.places) (sym same_spec) stage;
      before = subst (λ spec. GoesOnBefore spec t.options m) (sym same_spec) (subst (λ options. GoesOnBefore s.spec options m) (sym same_options) before);
    }
  where
    here : (j : ℕ) (B : TreeAutomaton) (g : List ℕ) → j ≡ n → IsStage s.spec j B g → GoesOn s.spec s.options j B g
    here j B g e stage =
        let same = stages s.spec n s.automaton B s.places g at.stage (subst (λ k. IsStage s.spec k B g) e stage) in
        subst (λ k. GoesOn s.spec s.options k B g) (sym e) (subst (λ X. GoesOn s.spec s.options n X g) same.0 (subst (λ l. GoesOn s.spec s.options n s.automaton l) same.1 passed.goes_on))

    before : GoesOnBefore s.spec s.options m
    before j B g less stage = ⊎_elim (λ early. at.before j B g early stage) (λ late. here j B g (omega (arith, next, less, late)) stage) (cases_lt j n)

pub ended : (s : Standing) (n : ℕ) (e : StageEnd) → n ≤ s.options.rounds → StandsAt s n → EndsAt s.spec s.options n s.automaton s.places e → Ends s.spec s.options s.automaton s.places e
ended s n e within at ends = record { number = n; within = within; stage = at.stage; ends = ends; least = at.before }

-- ---- along the loop

pub reached_first : (s : Standing) (spec : Spec) (options : Options) → s ≡ record { spec = spec; options = options; automaton = started spec; places = apart (started spec).next } → Reaches spec options s 0
reached_first s spec options is =
    subst (λ s. Reaches spec options s 0) (sym is)
    (record { same_spec = refl; same_options = refl; stands = stands_first (record { spec = spec; options = options; automaton = started spec; places = apart (started spec).next }) IsStage.start })

pub reached_next : StagesAreOne → (spec : Spec) (options : Options) (s t : Standing) (n : ℕ) → Reaches spec options s n → t.spec ≡ s.spec → t.options ≡ s.options → IsPassed s n t.automaton t.places →
    Reaches spec options t (n + 1)
reached_next stages spec options s t n r same_spec same_options p = record {
  same_spec = same_spec ∙ r.same_spec;
  same_options = same_options ∙ r.same_options;
  stands = stands_next stages s t n (n + 1) refl same_spec same_options r.stands p;
}

pub reached_end : (spec : Spec) (options : Options) (s : Standing) (n : ℕ) (e : StageEnd) → Reaches spec options s n → n ≤ options.rounds → EndsAt s.spec s.options n s.automaton s.places e →
    Ends spec options s.automaton s.places e
reached_end spec options s n e r within ends =
    subst (λ spec. Ends spec options s.automaton s.places e) r.same_spec (subst (λ options. Ends s.spec options s.automaton s.places e) r.same_options
    (ended s n e (subst (λ (o : Options). n ≤ o.rounds) (sym r.same_options) within) r.stands ends))

-- a closed end is accepted
pub closed_end : (spec : Spec) (options : Options) (A : TreeAutomaton) (h : List ℕ) (e : StageEnd) (i : ℕ) → Ends spec options A h e → e ≡ end.Closed i → IsContained spec.initial A (take spec.initial.next h) →
    IsAccepted spec A (take spec.initial.next h)
closed_end spec options A h e i ends is contained = by ends.ends is
  where
    by : {e : StageEnd} → EndsAt spec options ends.number A h e → e ≡ end.Closed i → IsAccepted spec A (take spec.initial.next h)
    by (EndsAt.closed misses closed) same = record { contained = contained; closed = closed; misses = misses }
    by (EndsAt.meets m) same = cc
    by (EndsAt.rounds a b c) same = cc
    by (EndsAt.pairs a b c d) same = cc
    by (EndsAt.states a b c d f) same = cc

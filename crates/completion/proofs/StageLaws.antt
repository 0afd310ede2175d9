-- A stage is one automaton with one map.
use Rattle.std.proofs.Common.{◌≡◌, ℕ, List, refl, sym, ap, subst, ◌∙◌, arith}
use Rattle.ta_core.specs.TreeAutomaton.{TreeAutomaton}
use Rattle.ta_core.specs.ClosureLaws.{OpenPairsAreOne}
use Rattle.ta_core.specs.declared.spec.Spec.{Spec}
use Rattle.normalise.specs.Normalising.{NormalisedAll}
use Rattle.normalise.specs.NormalisingLaws.{NormalisedAllIsOne}
use Rattle.eq_merge.specs.Quotients.{followed}
use Rattle.eq_merge.specs.Merging.{Merged}
use Rattle.eq_merge.specs.MergingLaws.{MergedIsOne}
use Rattle.completion.specs.Stages.{IsStage, IsRound, context_of}
use Rattle.completion.specs.StagesLaws.{StagesAreOne}

module _ (lists : OpenPairsAreOne) (all : NormalisedAllIsOne) (merging : MergedIsOne) where
  round_one : (spec : Spec) (A B C : TreeAutomaton) (h g k : List ℕ) → IsRound spec A h B g → IsRound spec A h C k → (B ≡ C) × (g ≡ k)
  round_one spec A B C h g k a b =
      let pairs = lists A spec.rules b.pairs a.pairs b.are_open a.are_open in
      let grown = all (context_of spec h) A a.grown b.grown a.pairs a.normalised (subst (λ l. NormalisedAll (context_of spec h) A l b.grown) pairs b.normalised) in
      let e = merging spec.equations a.grown B C a.classes b.classes a.merged (subst (λ X. Merged spec.equations X C b.classes) (sym grown) b.merged) in
      (e.0, a.places ∙ (ap (followed h) e.1 ∙ sym b.places))

  stage_one : {spec : Spec} {i : ℕ} {A : TreeAutomaton} {h : List ℕ} → IsStage spec i A h → {j : ℕ} {B : TreeAutomaton} {g : List ℕ} → IsStage spec j B g → i ≡ j → (A ≡ B) × (h ≡ g)
  stage_one IsStage.start IsStage.start e = (refl, refl)
  stage_one IsStage.start (IsStage.round {i = j} s r) e = absurd (omega (arith, e))
  stage_one (IsStage.round {i = i} s r) IsStage.start e = absurd (omega (arith, e))
  stage_one {spec = spec} (IsStage.round {i = i} {A = A} {B = B} {h = h} {g = g} s r) (IsStage.round {i = j} {A = C} {B = D} {h = k} {g = l} t u) e =
      let same = stage_one s t (omega (arith, e)) in
      round_one spec A B D h g l r (subst (λ X. IsRound spec X h D l) (sym same.0) (subst (λ x. IsRound spec C x D l) (sym same.1) u))

  pub stages_are_one : StagesAreOne
  stages_are_one spec i A B h g a b = stage_one a b refl

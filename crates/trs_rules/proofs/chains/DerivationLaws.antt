-- The steps of a derivation one by one.
use Rattle.std.proofs.Common.{◌≡◌, ◌↔◌, ◌⊎◌, inl, inr, ℕ, zero, suc, ◌+◌, ◌<◌, ◌≤◌, List, [], ◌∷◌, map, length, get_or, slice_get, Option, Some, None, Bool, true, false, not, refl, sym, ap, subst, ◌∙◌, arith}
use Rattle.std.specs.Prelude.{IsTrue, is_some}
use Rattle.ranked_terms.specs.declared.term.Term.{Term}
use Rattle.trs_rules.specs.Rules.{RewriteRule}
use Rattle.trs_rules.specs.Steps.{StepAt}
use Rattle.trs_rules.specs.Derivations.{terms_along, IsStepOf, IsDerivation, IsFirstBad}
use Rattle.trs_rules.specs.declared.derivation.DStep.{DStep}
use Rattle.trs_rules.specs.declared.derivation.Derivation.{Derivation}

pub at_place : {X : Type 0} (xs : List X) (i : ℕ) (x : X) → i < length xs → x ≡ get_or xs i x → slice_get xs i ≡ Some x
at_place [] i x l e = absurd (omega (arith, l))
at_place (y ∷ xs) zero x l e = ap Some (sym e)
at_place (y ∷ xs) (suc i) x l e = at_place xs i x (omega (arith, l)) e

pub no_place : {X : Type 0} (xs : List X) (i : ℕ) → length xs ≤ i → slice_get xs i ≡ None
no_place [] i l = refl
no_place (y ∷ xs) zero l = absurd (omega (arith, l))
no_place (y ∷ xs) (suc i) l = no_place xs i (omega (arith, l))

at_map : (steps : List DStep) (i : ℕ) (step : DStep) → slice_get steps i ≡ Some step → slice_get (map (λ s. s.term) steps) i ≡ Some step.term
at_map [] i step e = cc
at_map (s ∷ steps) zero step e = let h : s ≡ step = cc in ap (λ (x : DStep). Some x.term) h
at_map (s ∷ steps) (suc i) step e = at_map steps i step e

same_some : {X : Type 0} (x y : X) → Some x ≡ Some y → x ≡ y
same_some x y e = cc

module _ (R : List RewriteRule) (d : Derivation) where
  -- before the first step stands the start
  pub along_start : slice_get (terms_along d) 0 ≡ Some d.start
  along_start = refl

  -- and before the next one the term of this one
  pub along_next : (i : ℕ) (step : DStep) → i < length d.steps → step ≡ get_or d.steps i step → slice_get (terms_along d) (i + 1) ≡ Some step.term
  along_next i step l e =
      let n : i + 1 ≡ suc i = omega arith in
      ap (slice_get (terms_along d)) n ∙ at_map d.steps i step (at_place d.steps i step l e)

  module _ (i : ℕ) (step : DStep) (before : Term) (l : i < length d.steps) (is : step ≡ get_or d.steps i step) (is_before : slice_get (terms_along d) i ≡ Some before) where
    pub is_step_of : StepAt R step.rule step.at before step.term → IsStepOf R d i
    is_step_of h = record { step = step; is_step = at_place d.steps i step l is; before = before; is_before = is_before; steps = h }

    pub step_of_is : IsStepOf R d i → StepAt R step.rule step.at before step.term
    step_of_is h =
        let e : h.step ≡ step = same_some h.step step (sym h.is_step ∙ at_place d.steps i step l is) in
        let f : h.before ≡ before = same_some h.before before (sym h.is_before ∙ is_before) in
        subst (λ (x : DStep). StepAt R x.rule x.at before x.term) e (subst (λ x. StepAt R h.step.rule h.step.at x h.step.term) f h.steps)

  -- a first bad step
  pub first_bad_at : (i : ℕ) → i < length d.steps → (IsStepOf R d i → ⊥) → ((j : ℕ) → j < i → IsStepOf R d j) → (number : ℕ) → (Some (i + 1) ≡ Some number) ↔ IsFirstBad R d number
  first_bad_at i l bad earlier number = (
    λ e. record { place = i; counts = sym (same_some (i + 1) number e); within = l; bad = bad; earlier = earlier },
    λ h. ap Some (at h (places h.place i)),
  )
    where
      places : (m n : ℕ) → (m < n) ⊎ ((m ≡ n) ⊎ (n < m))
      places m n = grind arith

      at : (h : IsFirstBad R d number) → (h.place < i) ⊎ ((h.place ≡ i) ⊎ (i < h.place)) → i + 1 ≡ number
      at h (inl less) = absurd (h.bad (earlier h.place less))
      at h (inr (inl same)) = let c = h.counts in omega (arith, c, same)
      at h (inr (inr more)) = absurd (bad (h.earlier i more))

  pub bad_is_none : (i : ℕ) → i < length d.steps → (IsStepOf R d i → ⊥) → (◌≡◌ {A = Option ℕ} (Some (i + 1)) None) ↔ IsDerivation R d
  bad_is_none i l bad = (λ e. absurd (some_none e), λ h. absurd (bad (h i l)))
    where
      some_none : Some (i + 1) ≡ None → ⊥
      some_none e = cc

  -- no bad step
  pub all_good : (i : ℕ) → length d.steps ≤ i → ((j : ℕ) → j < i → IsStepOf R d j) → (◌≡◌ {A = Option ℕ} None None) ↔ IsDerivation R d
  all_good i l good = (λ e place m. good place (omega (arith, l, m)), λ h. refl)

  pub none_bad : (i : ℕ) → length d.steps ≤ i → ((j : ℕ) → j < i → IsStepOf R d j) → (number : ℕ) → (◌≡◌ {A = Option ℕ} None (Some number)) ↔ IsFirstBad R d number
  none_bad i l good number = (λ e. none_some e, λ h. absurd (h.bad (let w = h.within in good h.place (omega (arith, l, w)))))
    where
      none_some : {A : Type 0} → None ≡ Some number → A
      none_some e = cc

  turned : (r : Bool) → false ≡ not r → r ≡ true
  turned true e = refl
  turned false e = cc

  pub decided_by : (o : Option ℕ) (r : Bool) → is_some o ≡ not r → (o ≡ None) ↔ IsDerivation R d → IsTrue r ↔ IsDerivation R d
  decided_by None r e k = (λ h. k.0 refl, λ h. turned r e)
  decided_by (Some n) r e k = (λ h. absurd (twice r e h), λ h. absurd (some_none (k.1 h)))
    where
      twice : (r : Bool) → true ≡ not r → r ≡ true → ⊥
      twice true e h = cc
      twice false e h = cc

      some_none : ◌≡◌ {A = Option ℕ} (Some n) None → ⊥
      some_none e = cc

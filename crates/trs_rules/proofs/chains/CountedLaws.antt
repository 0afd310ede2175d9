-- Chains with their number of steps.
use Rattle.std.proofs.Common.{◌≡◌, ℕ, zero, suc, ◌+◌, ◌-◌, ◌≤◌, List, [], ◌∷◌, ◌++◌, length, slice_get, Some, refl, sym, ap, subst, ◌∙◌, arith, length-append}
use Rattle.list_laws.proofs.Ends.{last_append, last_cons, cut_last, first_append}
use Rattle.ranked_terms.specs.declared.term.Term.{Term}
use Rattle.trs_rules.specs.Rules.{RewriteRule}
use Rattle.trs_rules.specs.Steps.{Step, Chain, one, more}
use Rattle.trs_rules.specs.Counted.{LeadsIn, NoStepStays, StepsComeFirst, StepsComeLast, CountsAddUp, WithinIsInSome, LeadsIsInSome}
use Rattle.trs_rules.proofs.steps.StepLaws.{chains_append}

module _ (R : List RewriteRule) where
  stay : (t : Term) → LeadsIn R 0 t t
  stay t = record { terms = t ∷ []; chain = one t; begins = refl; ends = refl; count = omega arith }

  only : (s t : Term) (ts : List Term) → slice_get ts 0 ≡ Some s → slice_get ts (length ts - 1) ≡ Some t → length ts ≡ 1 → s ≡ t
  only s t [] b e n = absurd (omega (arith, n))
  only s t (x ∷ []) b e n = let k : Some s ≡ Some t = sym b ∙ e in cc
  only s t (x ∷ y ∷ ts) b e n = absurd (omega (arith, n))

  -- a first step
  front : (n : ℕ) (s t u : Term) → Step R s t → (ts : List Term) → Chain R ts → slice_get ts 0 ≡ Some t → slice_get ts (length ts - 1) ≡ Some u → length ts ≡ n + 1 → LeadsIn R (suc n) s u
  front n s t u h [] c b e l = absurd (omega (arith, l))
  front n s t u h (x ∷ ts) c b e l =
      let same : x ≡ t = cc in
      record {
        terms = s ∷ x ∷ ts;
        chain = more (subst (Step R s) (sym same) h) c;
        begins = refl;
        ends = last_cons s (x ∷ ts) (omega arith) ∙ e;
        count = omega (arith, l);
      }

  back : (n : ℕ) (s u : Term) {ts : List Term} → Chain R ts → slice_get ts 0 ≡ Some s → slice_get ts (length ts - 1) ≡ Some u → length ts ≡ suc n + 1 → (t : Term) × Step R s t × LeadsIn R n t u
  back n s u (one x) b e l = absurd (omega (arith, l))
  back n s u (more {s = x} {t = y} {ts = ts} h c) b e l =
      let same : x ≡ s = cc in (
        y,
        subst (λ z. Step R z y) same h,
        record { terms = y ∷ ts; chain = c; begins = refl; ends = sym (last_cons x (y ∷ ts) (omega arith)) ∙ e; count = omega (arith, l) },
      )

  -- one chain after the other
  joined : (m n : ℕ) (s t u : Term) (xs ys : List Term) → Chain R xs → slice_get xs 0 ≡ Some s → slice_get xs (length xs - 1) ≡ Some t → length xs ≡ m + 1 →
      Chain R ys → slice_get ys 0 ≡ Some t → slice_get ys (length ys - 1) ≡ Some u → length ys ≡ n + 1 → LeadsIn R (m + n) s u
  joined m n s t u [] ys c b e l d f g k = absurd (omega (arith, l))
  joined m n s t u (x ∷ xs) [] c b e l d f g k = absurd (omega (arith, k))
  joined m n s t u (x ∷ xs) (y ∷ ys) c b e l d f g k =
      let cut = cut_last x xs t e in
      let same : y ≡ t = cc in
      record {
        terms = cut.0 ++ t ∷ ys;
        chain = chains_append R cut.0 ys t (subst (Chain R) cut.1 c) (subst (λ z. Chain R (z ∷ ys)) same d);
        begins = first_append cut.0 t ys ∙ (ap (λ zs. slice_get zs 0) (sym cut.1) ∙ b);
        ends = last_append cut.0 t ys ∙ (ap (λ z. slice_get (z ∷ ys) (length (z ∷ ys) - 1)) (sym same) ∙ g);
        count = omega (arith, l, k, ap length cut.1, length-append cut.0 (t ∷ []), length-append cut.0 (t ∷ ys));
      }

pub no_step_stays : NoStepStays
no_step_stays R s t = (λ h. only R s t h.terms h.begins h.ends (h.count ∙ omega arith), λ e. subst (LeadsIn R 0 s) e (stay R s))

pub steps_come_first : StepsComeFirst
steps_come_first R n s u = (
  λ h. back R n s u h.chain h.begins h.ends h.count,
  λ h. front R n s h.0 u h.1 h.2.terms h.2.chain h.2.begins h.2.ends h.2.count,
)

pub counts_add_up : CountsAddUp
counts_add_up R m n s t u a b = joined R m n s t u a.terms b.terms a.chain a.begins a.ends a.count b.chain b.begins b.ends b.count

last_step : (R : List RewriteRule) (n : ℕ) (s u : Term) → LeadsIn R (suc n) s u → (t : Term) × LeadsIn R n s t × Step R t u
last_step R zero s u h =
    let first = (steps_come_first R 0 s u).0 h in
    let same = (no_step_stays R first.0 u).0 first.2 in
    (s, stay R s, subst (Step R s) same first.1)
last_step R (suc n) s u h =
    let first = (steps_come_first R (suc n) s u).0 h in
    let rest = last_step R n first.0 u first.2 in
    (rest.0, (steps_come_first R n s rest.0).1 (first.0, first.1, rest.1), rest.2)

pub steps_come_last : StepsComeLast
steps_come_last R n s u = (
  last_step R n s u,
  λ h.
      let step : LeadsIn R 1 h.0 u = (steps_come_first R 0 h.0 u).1 (u, h.2, stay R u) in
      subst (λ k. LeadsIn R k s u) (omega arith) (counts_add_up R n 1 s h.0 u h.1 step),
)

pub within_is_in_some : WithinIsInSome
within_is_in_some R n s t = (
  λ h. counted h.terms h.chain h.begins h.ends h.count,
  λ h. record { terms = h.2.terms; chain = h.2.chain; begins = h.2.begins; ends = h.2.ends; count = omega (arith, h.1, h.2.count) },
)
  where
    counted : (ts : List Term) → Chain R ts → slice_get ts 0 ≡ Some s → slice_get ts (length ts - 1) ≡ Some t → length ts ≤ n + 1 → (k : ℕ) × (k ≤ n) × LeadsIn R k s t
    counted [] c b e l = absurd (cc)
    counted (x ∷ ts) c b e l = (length ts, omega (arith, l), record { terms = x ∷ ts; chain = c; begins = b; ends = e; count = omega arith })

pub leads_is_in_some : LeadsIsInSome
leads_is_in_some R s t = (
  λ h. counted h.terms h.chain h.begins h.ends,
  λ h. record { terms = h.1.terms; chain = h.1.chain; begins = h.1.begins; ends = h.1.ends },
)
  where
    counted : (ts : List Term) → Chain R ts → slice_get ts 0 ≡ Some s → slice_get ts (length ts - 1) ≡ Some t → (n : ℕ) × LeadsIn R n s t
    counted [] c b e = absurd (cc)
    counted (x ∷ ts) c b e = (length ts, record { terms = x ∷ ts; chain = c; begins = b; ends = e; count = omega arith })

-- What is reached within one step more.
use Rattle.std.proofs.Common.{◌≡◌, ◌↔◌, ◌⊎◌, ℕ, ◌+◌, ◌-◌, ◌≤◌, List, [], ◌∷◌, ◌++◌, length, slice_get, Some, refl, sym, ap, subst, ◌∙◌, inl, inr, ⊎_elim, arith, length-append}
use Rattle.ranked_terms.specs.declared.term.Term.{Term}
use Rattle.trs_rules.specs.Rules.{RewriteRule}
use Rattle.trs_rules.specs.Steps.{Step, Chain, one, more}
use Rattle.derive_search.proofs.StepLaws.{chains_append}
use Rattle.list_laws.proofs.Ends.{last_append, last_cons, cut_last, first_append}
use Rattle.ta_core.specs.declared.spec.Spec.{Spec}
use Rattle.derive_search.specs.Search.{IsStart, Reached}
use Rattle.derive_search.specs.Laws.{StartsAreReached, StepsFromReached, ReachedByLevels, ReachedIsReachable, OverStays}

-- a chain with a last step has the chain before it
pub record Cut (R : List RewriteRule) (first : Term) (count : ℕ) (last : Term) : Type 0 where
  pub terms : List Term
  pub chain : Chain R terms
  pub begins : slice_get terms 0 ≡ Some first
  pub before : Term
  pub ends : slice_get terms (length terms - 1) ≡ Some before
  pub shorter : length terms + 1 ≡ count
  pub step : Step R before last

cut : (R : List RewriteRule) {s t : Term} {ts : List Term} → Step R s t → Chain R (t ∷ ts) → (last : Term) → slice_get (t ∷ ts) (length (t ∷ ts) - 1) ≡ Some last → Cut R s (length (s ∷ t ∷ ts)) last
cut R {s = s} {t = t} {ts = []} h (one x) last e = record {
  terms = s ∷ [];
  chain = one s;
  begins = refl;
  before = s;
  ends = refl;
  shorter = refl;
  step = subst (Step R s) (let q : t ≡ last = cc in q) h;
}
cut R {s = s} {t = t} {ts = u ∷ ts} h (more k c) last e =
    let r = cut R k c last (sym (last_cons t (u ∷ ts) (omega arith)) ∙ e) in
    put s h r.terms r.chain r.begins r.before r.ends r.shorter r.step
  where
    put : (s : Term) → Step R s t → (terms : List Term) → Chain R terms → slice_get terms 0 ≡ Some t → (before : Term) → slice_get terms (length terms - 1) ≡ Some before → length terms + 1 ≡ length (t ∷ u ∷ ts) → Step R before last → Cut R s (length (s ∷ t ∷ u ∷ ts)) last
    put s h [] chain begins before ends shorter step = cc
    put s h (x ∷ xs) chain begins before ends shorter step = record {
      terms = s ∷ x ∷ xs;
      chain = let q : t ≡ x = cc in more (subst (Step R s) q h) chain;
      begins = refl;
      before = before;
      ends = last_cons s (x ∷ xs) (omega arith) ∙ ends;
      shorter = omega (arith, shorter);
      step = step;
    }

module _ (spec : Spec) (height : ℕ) where
  pub starts_are_reached : (t : Term) → Reached spec height 0 t ↔ IsStart spec height t
  starts_are_reached t = (
    λ r. alone r.start r.starts r.terms r.begins r.ends r.short,
    λ s. record { start = t; starts = s; terms = t ∷ []; chain = one t; begins = refl; ends = refl; short = omega arith },
  )
    where
      alone : (start : Term) → IsStart spec height start → (ts : List Term) → slice_get ts 0 ≡ Some start → slice_get ts (length ts - 1) ≡ Some t → length ts ≤ 1 → IsStart spec height t
      alone start s [] b e l = cc
      alone start s (x ∷ []) b e l = let q : start ≡ t = cc in subst (IsStart spec height) q s
      alone start s (x ∷ y ∷ ts) b e l = absurd (omega (arith, l))

  pub reached_more : (i j : ℕ) (t : Term) → i ≤ j → Reached spec height i t → Reached spec height j t
  reached_more i j t l r = record { start = r.start; starts = r.starts; terms = r.terms; chain = r.chain; begins = r.begins; ends = r.ends; short = omega (arith, l, r.short) }

  last_level : (j : ℕ) (t start : Term) → IsStart spec height start → {ts : List Term} → Chain spec.rules ts → slice_get ts 0 ≡ Some start → slice_get ts (length ts - 1) ≡ Some t → length ts ≤ (j + 1) + 1
      → Reached spec height j t ⊎ StepsFromReached spec height j t
  last_level j t start s (one x) b e l = inl (record { start = start; starts = s; terms = x ∷ []; chain = one x; begins = b; ends = e; short = omega arith })
  last_level j t start s (more {s = x} {t = y} {ts = ts} h c) b e l =
      let r = cut spec.rules h c t (sym (last_cons x (y ∷ ts) (omega arith)) ∙ e) in
      inr (record {
        from = r.before;
        reached = record { start = start; starts = s; terms = r.terms; chain = r.chain; begins = r.begins ∙ b; ends = r.ends; short = omega (arith, r.shorter, l) };
        step = r.step;
      })

  one_step_more : (j : ℕ) (s t start : Term) → IsStart spec height start → (ts : List Term) → Chain spec.rules ts → slice_get ts 0 ≡ Some start → slice_get ts (length ts - 1) ≡ Some s → length ts ≤ j + 1 → Step spec.rules s t → Reached spec height (j + 1) t
  one_step_more j s t start st [] c b e l h = cc
  one_step_more j s t start st (x ∷ xs) c b e l h =
      let k = cut_last x xs s e in
      record {
        start = start;
        starts = st;
        terms = k.0 ++ s ∷ t ∷ [];
        chain = chains_append spec.rules k.0 (t ∷ []) s (subst (Chain spec.rules) k.1 c) (more h (one t));
        begins = first_append k.0 s (t ∷ []) ∙ (ap (λ zs. slice_get zs 0) (sym k.1) ∙ b);
        ends = last_append k.0 s (t ∷ []);
        short = omega (arith, length-append k.0 (s ∷ t ∷ []), length-append k.0 (s ∷ []), ap length k.1, l);
      }

  pub reached_by_levels : (j : ℕ) (t : Term) → Reached spec height (j + 1) t ↔ (Reached spec height j t ⊎ StepsFromReached spec height j t)
  reached_by_levels j t = (
    λ r. last_level j t r.start r.starts r.chain r.begins r.ends r.short,
    λ either. ⊎_elim (λ r. reached_more j (j + 1) t (omega arith) r) (λ f. one_step_more j f.from t f.reached.start f.reached.starts f.reached.terms f.reached.chain f.reached.begins f.reached.ends f.reached.short f.step) either,
  )

pub starts : StartsAreReached
starts spec height t = starts_are_reached spec height t

pub levels : ReachedByLevels
levels spec height j t = reached_by_levels spec height j t

pub reachable : ReachedIsReachable
reachable spec height j t r = record { start = r.start; begins = r.starts.language; leads = record { terms = r.terms; chain = r.chain; begins = r.begins; ends = r.ends } }

pub over_stays : OverStays
over_stays spec options i j l o = ⊎_elim (λ many. inl many) (λ rest. inr (⊎_elim
    (λ many. inl (record { some = many.some; distinct = many.distinct; each = λ t c. reached_more spec options.height i j t l (many.each t c); more = many.more }))
    (λ large. inr (record { member = large.member; has = reached_more spec options.height i j large.member l large.has; large = large.large })) rest)) o

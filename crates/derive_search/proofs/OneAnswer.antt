-- A search has one answer, but for the choice of a derivation.
use Rattle.std.proofs.Common.{◌≡◌, ℕ, ◌<◌, ◌≤◌, length, refl, subst, ⊎_elim, arith}
use Rattle.std.proofs.lemmas.Bool.{cases_lt}
use Rattle.ranked_terms.specs.Terms.{height_of}
use Rattle.trs_rules.specs.DerivationLaws.{DerivationsAreChains}
use Rattle.trs_rules.specs.declared.derivation.Derivation.{Derivation}
use Rattle.ta_core.specs.Reachability.{Replays}
use Rattle.ta_core.specs.declared.spec.Spec.{Spec}
use Rattle.ta_core.specs.declared.options.Options.{Options}
use Rattle.derive_search.specs.Search.{GoesOnTo, IsOver, ReachesForbidden, SearchAnswer}
use Rattle.derive_search.specs.Laws.{AnswersAreOne, IsSameEnd}
use Rattle.derive_search.specs.declared.bounded.SearchEnd.{SearchEnd}
use Rattle.derive_search.specs.declared.bounded.SearchEnd.TheVariants.{Over}

same : (m n : ℕ) → (m < n → ⊥) → (n < m → ⊥) → m ≡ n
same m n no_less no_more = ⊎_elim (λ l. absurd (no_less l)) (λ l. ⊎_elim (λ k. absurd (no_more k)) (λ k. omega (arith, l, k)) (cases_lt n m)) (cases_lt m n)

module _ (chains : DerivationsAreChains) (spec : Spec) (options : Options) where
  -- a derivation from a low start reaches a forbidden term
  hits : (d : Derivation) → height_of d.start ≤ options.height → Replays spec d → ReachesForbidden spec options (length d.steps)
  hits d low r =
      let chain = (chains spec.rules (length d.steps) d.start r.last).0 (record { derivation = d; starts = refl; count = refl; steps = r.steps; leads = r.leads }) in
      record {
        term = r.last;
        reached = record {
          start = d.start;
          starts = record { language = r.starts; low = low };
          terms = chain.terms;
          chain = chain.chain;
          begins = chain.begins;
          ends = chain.ends;
          short = let count = chain.count in omega (arith, count);
        };
        forbidden = r.forbidden;
      }

  -- where it is over, no derivation is found
  not_both : (j : ℕ) → GoesOnTo spec options j → IsOver spec options j → (d : Derivation) → GoesOnTo spec options (length d.steps) → (IsOver spec options (length d.steps) → ⊥) → height_of d.start ≤ options.height → Replays spec d → ⊥
  not_both j goes over d longer fits low r =
      let is = same j (length d.steps) (λ l. (longer j l).0 over) (λ l. (goes (length d.steps) l).1 (hits d low r)) in
      fits (subst (IsOver spec options) is over)

  pub one_end : (end other : SearchEnd) → SearchAnswer spec options end → SearchAnswer spec options other → IsSameEnd end other
  one_end _ _ (SearchAnswer.exhausted g) (SearchAnswer.exhausted h) = IsSameEnd.exhausted options.steps
  one_end _ _ (SearchAnswer.exhausted g) (SearchAnswer.over j l h o) = absurd ((g j (omega (arith, l))).0 o)
  one_end _ _ (SearchAnswer.exhausted g) (SearchAnswer.found d l h n low r) = absurd ((g (length d.steps) (omega (arith, l))).1 (hits d low r))
  one_end _ _ (SearchAnswer.over j l h o) (SearchAnswer.exhausted g) = absurd ((g j (omega (arith, l))).0 o)
  one_end _ _ (SearchAnswer.over j l g o) (SearchAnswer.over k m h p) = subst (λ n. IsSameEnd (Over j) (Over n)) (same j k (λ x. (h j x).0 o) (λ x. (g k x).0 p)) (IsSameEnd.over j)
  one_end _ _ (SearchAnswer.over j l g o) (SearchAnswer.found d m h n low r) = absurd (not_both j g o d h n low r)
  one_end _ _ (SearchAnswer.found d l h n low r) (SearchAnswer.exhausted g) = absurd ((g (length d.steps) (omega (arith, l))).1 (hits d low r))
  one_end _ _ (SearchAnswer.found d m h n low r) (SearchAnswer.over j l g o) = absurd (not_both j g o d h n low r)
  one_end _ _ (SearchAnswer.found d l g n low r) (SearchAnswer.found e m h o deep s) =
      IsSameEnd.found d e (same (length d.steps) (length e.steps) (λ x. (h (length d.steps) x).1 (hits d low r)) (λ x. (g (length e.steps) x).1 (hits e deep s)))

pub one_answer : DerivationsAreChains → AnswersAreOne
one_answer chains = one_end chains

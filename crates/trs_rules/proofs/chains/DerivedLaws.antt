-- Derivations and chains lead to the same terms in the same number of steps.
use Rattle.std.proofs.Common.{◌≡◌, ◌↔◌, ℕ, zero, suc, List, [], ◌∷◌, length, Some, refl, sym, ap, subst, arith}
use Rattle.ranked_terms.specs.declared.term.Term.{Term}
use Rattle.trs_rules.specs.Rules.{RewriteRule}
use Rattle.trs_rules.specs.Steps.{StepAt}
use Rattle.trs_rules.specs.Counted.{LeadsIn}
use Rattle.trs_rules.specs.Derivations.{IsDerivation, LeadsTo}
use Rattle.trs_rules.specs.DerivationLaws.{IsDerivedIn, DerivationsAreChains}
use Rattle.trs_rules.specs.declared.derivation.DStep.{DStep}
use Rattle.trs_rules.specs.declared.derivation.Derivation.{Derivation}
use Rattle.trs_rules.proofs.steps.StepLaws.{placed_steps_are_steps, steps_are_placed}
use Rattle.trs_rules.proofs.chains.CountedLaws.{no_step_stays, steps_come_first}
use Rattle.trs_rules.proofs.chains.DerivationLaws.{step_of_is}

same_some : {X : Type 0} (x y : X) → Some x ≡ Some y → x ≡ y
same_some x y e = cc

abbrev from : Term → List DStep → Derivation
from s steps = record { start = s; steps = steps }

module _ (R : List RewriteRule) where
  -- what stands behind a first step is a derivation from its term
  others : (s : Term) (x : DStep) (steps : List DStep) → IsDerivation R (from s (x ∷ steps)) → IsDerivation R (from x.term steps)
  others s x steps h place m =
      let k = h (suc place) (omega (arith, m)) in
      record { step = k.step; is_step = k.is_step; before = k.before; is_before = k.is_before; steps = k.steps }

  first : (s : Term) (x : DStep) (steps : List DStep) → IsDerivation R (from s (x ∷ steps)) → StepAt R x.rule x.at s x.term
  first s x steps h = step_of_is R (from s (x ∷ steps)) 0 x s (omega arith) refl refl (h 0 (omega arith))

  leads : (steps : List DStep) (s t : Term) → IsDerivation R (from s steps) → LeadsTo (from s steps) t → LeadsIn R (length steps) s t
  leads [] s t h e = (no_step_stays R s t).1 (same_some s t e)
  leads (x ∷ steps) s t h e =
      (steps_come_first R (length steps) s t).1 (x.term, placed_steps_are_steps R x.rule x.at s x.term (first s x steps h), leads steps x.term t (others s x steps h) e)

  -- one step more in front
  behind : (s : Term) (x : DStep) (steps : List DStep) → StepAt R x.rule x.at s x.term → IsDerivation R (from x.term steps) → IsDerivation R (from s (x ∷ steps))
  behind s x steps h d zero m = record { step = x; is_step = refl; before = s; is_before = refl; steps = h }
  behind s x steps h d (suc place) m =
      let k = d place (omega (arith, m)) in
      record { step = k.step; is_step = k.is_step; before = k.before; is_before = k.is_before; steps = k.steps }

  derived : (n : ℕ) (s t : Term) → LeadsIn R n s t → IsDerivedIn R n s t
  derived zero s t h = record { derivation = from s []; starts = refl; count = refl; steps = λ place m. absurd (omega (arith, m)); leads = ap Some ((no_step_stays R s t).0 h) }
  derived (suc n) s t h =
      let f = (steps_come_first R n s t).0 h in
      let d = derived n f.0 t f.2 in
      let p = steps_are_placed R s f.0 f.1 in
      let x : DStep = record { rule = p.rule; at = p.position; term = d.derivation.start } in
      record {
        derivation = from s (x ∷ d.derivation.steps);
        starts = refl;
        count = ap suc d.count;
        steps = behind s x d.derivation.steps (subst (λ u. StepAt R p.rule p.position s u) (sym d.starts) p.step) d.steps;
        leads = d.leads;
      }

pub derivations_are_chains : DerivationsAreChains
derivations_are_chains R n s t = (
  λ h. subst (λ m. LeadsIn R m s t) h.count (subst (λ u. LeadsIn R (length h.derivation.steps) u t) h.starts (leads R h.derivation.steps h.derivation.start t h.steps h.leads)),
  λ h. derived R n s t h,
)

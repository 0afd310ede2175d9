-- Steps that are taken one after the other.
use Rattle.std.proofs.Common.{◌≡◌, ℕ, ◌+◌, ◌<◌, length, List, [], ◌∷◌, ◌++◌, map, Option, Some, refl, sym, subst, arith, length-append}
use Rattle.std.proofs.lemmas.List.{map-append, length-map}
use Rattle.std.proofs.lemmas.List.Elements.{All-append, All-nil}
use Rattle.list_laws.proofs.Members.{all_one}
use Rattle.ranked_terms.specs.Names.{Symbol}
use Rattle.ranked_terms.specs.Texts.{Text, term_text}
use Rattle.trs_rules.specs.declared.derivation.DStep.{DStep}
use Rattle.ta_core.specs.declared.spec.Spec.{Spec}
use Rattle.cert_text.specs.declared.certificate.CertFault.{CertFault}
use Rattle.cert_text.specs.Lines.{Line, end}
use Rattle.cert_text.specs.Certificates.{step_line, IsCertStep}
use Rattle.cert_text.specs.Faults.{Known, Takes, none}
use Rattle.cert_text.specs.Taking.{Taken, Refused}
use Rattle.cert_text.specs.Paths.{MayStep, behind, IsAtStep, step_at, stepped, AreSteps, AreStepsToEnd, IsBadStep}
use Rattle.cert_text.proofs.whole.Composed.{one, and_then, stops}

may_after : (s : List Symbol) (o : Option Line) (ds : List DStep) → MayStep o → MayStep (step_at s o ds)
may_after s o [] may = may
may_after s o (d ∷ ds) may = may_after s (Some (step_line s d)) ds (behind d.rule d.at (term_text s d.term))

step_behind : (s : List Symbol) (o : Option Line) (front : List DStep) (d : DStep) → step_at s o (front ++ d ∷ []) ≡ Some (step_line s d)
step_behind s o [] d = refl
step_behind s o (x ∷ front) d = step_behind s (Some (step_line s x)) front d

pub no_steps : (s : List Symbol) (old : Text) (ds : List DStep) → ds ≡ [] → AreSteps s old old ds
no_steps s old ds is = subst (AreSteps s old old) (sym is) (record {
  takes = λ spec k at. let same : k.steps ≡ k.steps + 0 = omega arith in subst (λ (n : ℕ). Takes spec k old [] (record k { steps = n }) old) same none;
  few = omega arith;
  each = All-nil (IsCertStep s);
})

module _ (s : List Symbol) (old new : Text) (ds : List DStep) (are : AreSteps s old new ds) where
  at_count : (spec : Spec) (k : Known) → IsAtStep s 0 spec k → IsAtStep s (length ds) spec (stepped s k ds)
  at_count spec k at = record { signature = at.signature; may = may_after s k.before ds at.may; counted = (let none = at.counted in omega (arith, none)) }

  pub one_more_step : (newer : Text) (d : DStep) (es : List DStep) → ((spec : Spec) (k : Known) → IsAtStep s (length ds) spec k → Taken spec k new (step_line s d) newer) → IsCertStep s d × (length ds < 100) → es ≡ ds ++ d ∷ [] → AreSteps s old newer es
  one_more_step newer d es taken right same = subst (AreSteps s old newer) (sym same) (record {
    takes = λ spec k at.
        let many : k.steps + length ds + 1 ≡ k.steps + length (ds ++ d ∷ []) = (let l = length-append ds (d ∷ []) in omega (arith, l)) in
        subst (λ (ls : List Line). Takes spec k old ls (stepped s k (ds ++ d ∷ [])) newer) (sym (map-append (step_line s) ds (d ∷ [])))
        (subst (λ (o : Option Line). Takes spec k old (map (step_line s) ds ++ step_line s d ∷ []) (record k { before = o; steps = k.steps + length (ds ++ d ∷ []) }) newer) (sym (step_behind s k.before ds d))
        (subst (λ (n : ℕ). Takes spec k old (map (step_line s) ds ++ step_line s d ∷ []) (record k { before = Some (step_line s d); steps = n }) newer) many
        (and_then spec k (stepped s k ds) (record k { before = Some (step_line s d); steps = k.steps + length ds + 1 }) old new newer (map (step_line s) ds) (step_line s d ∷ []) (are.takes spec k at)
        (one spec (stepped s k ds) new newer (step_line s d) (taken spec (stepped s k ds) (at_count spec k at))))));
    few = (let l = length-append ds (d ∷ []) in let below = right.1 in omega (arith, l, below));
    each = All-append (IsCertStep s) ds (d ∷ []) are.each (all_one (IsCertStep s) d right.0);
  })

  pub steps_end : (newer : Text) → ((spec : Spec) (k : Known) → IsAtStep s (length ds) spec k → Taken spec k new end newer) → AreStepsToEnd s old newer ds
  steps_end newer taken = record {
    takes = λ spec k at.
        and_then spec k (stepped s k ds) (record k { before = Some end; steps = k.steps + length ds }) old new newer (map (step_line s) ds) (end ∷ []) (are.takes spec k at)
        (one spec (stepped s k ds) new newer end (taken spec (stepped s k ds) (at_count spec k at)));
    few = are.few;
    each = are.each;
  }

  pub bad_step : (count number : ℕ) (f : CertFault) → ((spec : Spec) (k : Known) → IsAtStep s (length ds) spec k → Refused spec k new number f) → number ≡ count + length ds + 1 → IsBadStep s old count f
  bad_step count number f bad is spec k at =
      stops spec k (stepped s k ds) old new (map (step_line s) ds) count number f (are.takes spec k at) (bad spec (stepped s k ds) (at_count spec k at))
      (let many = length-map ds (step_line s) in omega (arith, is, many))

-- What a certificate tells is over the signature.
use Rattle.std.proofs.Common.{◌≡◌, ◌&&◌, Bool, true, List, [], ◌∷◌, refl}
use Rattle.std.specs.List.{AllByRecursion, list_all}
use Rattle.std.proofs.lemmas.List.Elements.{recursion_from_All}
use Rattle.ranked_terms.specs.Terms.{is_over}
use Rattle.ta_core.specs.declared.spec.Spec.{Spec}
use Rattle.cert_text.specs.declared.certificate.Certificate.{Certificate}
use Rattle.cert_text.specs.declared.certificate.Certificate.TheVariants as certificate
use Rattle.cert_text.specs.Certificates.{IsCertStep, IsWithin, outcome_is_over}
use Rattle.library_cases.specs.Outcomes.{outcome_of}

all_pass : {X : Type 0} (P : X → Type 0) (p : X → Bool) → ((x : X) → P x → p x ≡ true) → (xs : List X) → AllByRecursion P xs → list_all p xs ≡ true
all_pass P p pass [] h = refl
all_pass P p pass (x ∷ xs) h = λ i. pass x h.0 i && all_pass P p pass xs h.1 i

pub within_is_over : (spec : Spec) (c : Certificate) → IsWithin spec c → outcome_is_over spec.signature (outcome_of c) ≡ true
within_is_over spec (certificate.Unreachable i precise A h) w = w.over
within_is_over spec (certificate.Reachable d) w =
    let steps = all_pass (IsCertStep spec.signature) (λ step. is_over spec.signature step.term) (λ step h. h.term.over) d.steps
    (recursion_from_All (IsCertStep spec.signature) d.steps w.steps) in
    λ i. w.start.over i && steps i

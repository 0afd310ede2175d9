-- A rule's right side is matched with what its left side has bound.
use Rattle.std.proofs.Common.{zero, suc, get_or, ◌≡◌, ◌↔◌, ℕ, ◌<◌, ◌≤◌, Bool, true, false, ◌==◌, ◌||◌, List, [], ◌∷◌, length, refl, sym, ap, subst, ◌∙◌, arith}
use Rattle.std.specs.List.{Contains, list_any}
use Rattle.std.proofs.lemmas.Bool.{eq-eqb}
use Rattle.ranked_terms.specs.Terms.{occurrences}
use Rattle.ranked_terms.specs.declared.term.Term.{Term}
use Rattle.ranked_terms.specs.lemmas.VariableLaws.{occurrences-in_variables_of}
use Rattle.trs_rules.specs.Rules.{RewriteRule, IsRule}
use Rattle.trs_rules.proofs.patterns.VariableLaws.{with_old}
use Rattle.ranked_terms.specs.Matching.{IsInstance, IsBoundBy, bound_in, bound_with, with_variables}
use Rattle.trs_rules.specs.Derivations.{IsStepBy}

either_left : (a b : Bool) → a ≡ true → (a || b) ≡ true
either_left true b h = refl
either_left false b h = cc

either_right : (a b : Bool) → b ≡ true → (a || b) ≡ true
either_right true b h = refl
either_right false b h = h

is_among : (v : ℕ) (vs : List ℕ) (n : ℕ) → n < length vs → get_or vs n v ≡ v → list_any (λ w. v == w) vs ≡ true
is_among v [] n l e = absurd (omega (arith, l))
is_among v (w ∷ vs) zero l e = either_left (v == w) (list_any (λ w. v == w) vs) (eq-eqb v w (sym e))
is_among v (w ∷ vs) (suc n) l e = either_right (v == w) (list_any (λ w. v == w) vs) (is_among v vs n (omega (arith, l)) e)

all_known : (vs ws : List ℕ) → ((v : ℕ) → Contains ws v → Contains vs v) → with_variables vs ws ≡ vs
all_known vs [] h = refl
all_known vs (w ∷ ws) h =
    let c = h w (0, omega arith, refl) in
    ap (λ us. with_variables us ws) (with_old vs w (is_among w vs c.0 c.1 c.2)) ∙ all_known vs ws (λ v m. h v (suc m.0, omega (arith, m.1), m.2))

module _ (rule : RewriteRule) (good : IsRule rule) (s t : Term) (b : List (ℕ × Term)) where
  pub room_left : length (bound_with [] rule.left) ≤ 16
  room_left = let few = good.vars_are_few in omega (arith, few, ap length good.vars_are)

  pub room_right : IsBoundBy rule.left s [] b → length (bound_with b rule.right) ≤ 16
  room_right m =
      let known = all_known (bound_in b) (occurrences rule.right) (λ v c. subst (λ vs. Contains vs v) (sym m.bound) (occurrences-in_variables_of rule.left v (good.right_is_bound v c))) in
      let r = room_left in
      omega (arith, ap length known, ap length m.bound, r)

  pub as_step : IsBoundBy rule.left s [] b → IsInstance rule.right t b ↔ IsStepBy rule s t
  as_step m = (
    λ h. record { θ = h.θ; from = sym ((m.exactly h.θ).0 h.agrees).1; to = h.is },
    λ h. record { θ = h.θ; agrees = (m.exactly h.θ).1 (tt, sym h.from); is = h.to },
  )

  pub no_step : (IsInstance rule.left s [] → ⊥) → IsStepBy rule s t → ⊥
  no_step other h = other (record { θ = h.θ; agrees = tt; is = h.from })

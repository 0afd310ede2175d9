-- Shapes with states for their variables, and configurations told apart.
use Rattle.std.proofs.Common.{◌≡◌, ℕ, List, [], ◌∷◌, map, Option, Some, None, sym, ap, subst, ◌∙◌}
use Rattle.std.specs.List.{AllByRecursion}
use Rattle.ranked_terms.specs.declared.term.Config.{Config}
use Rattle.ranked_terms.specs.declared.term.Config.TheVariants as config
use Rattle.ranked_terms.specs.declared.term.Config.TheOpen as layer
use Rattle.ranked_terms.specs.declared.term.Config.TheViews.{out-Config}
use Rattle.ranked_terms.specs.declared.term.Shape.{Shape}
use Rattle.ranked_terms.specs.declared.term.Shape.TheVariants as shape
use Rattle.ranked_terms.specs.declared.term.Shape.TheOpen as form
use Rattle.ranked_terms.specs.declared.term.Shape.TheViews.{roll-Shape}
use Rattle.ranked_terms.specs.declared.term.Shape.TheFolds.{fold-roll-Shape, ind-Shape, map-Shape}
use Rattle.ranked_terms.specs.lemmas.TermLaws.{config_induction}
use Rattle.ta_core.specs.Acceptance.{image}
use Rattle.normalise.specs.Normalising.{filled, filled_step}

-- ---- inductions

each_such : {X : Type 0} (P : X → Type 0) (ys : List ((x : X) × P x)) → AllByRecursion P (map (λ e. e.0) ys)
each_such P [] = tt
each_such P (y ∷ ys) = (y.1, each_such P ys)

module _ (P : Shape → Type 0) (var : (v : ℕ) → P (shape.Var v)) (state : (q : ℕ) → P (shape.State q)) (app : (f : ℕ) (ss : List Shape) → AllByRecursion P ss → P (shape.App f ss)) where
  at_form : (y : form.Shape-F ((s : Shape) × P s)) → P (roll-Shape (map-Shape ((s : Shape) × P s) Shape (λ e. e.0) y))
  at_form (form.Var v) = subst P (sym (shape.rolls-Var v)) (var v)
  at_form (form.State q) = subst P (sym (shape.rolls-State q)) (state q)
  at_form (form.App f ss) = subst P (sym (shape.rolls-App f (map (λ e. e.0) ss))) (app f (map (λ e. e.0) ss) (each_such P ss))

  pub shape_induction : (s : Shape) → P s
  shape_induction = ind-Shape P (λ x y is. subst (λ (z : form.Shape-F Shape). P (roll-Shape z)) is (at_form y))

pub shape_cases : (P : Shape → Type 0) → ((v : ℕ) → P (shape.Var v)) → ((q : ℕ) → P (shape.State q)) → ((f : ℕ) (ss : List Shape) → P (shape.App f ss)) → (s : Shape) → P s
shape_cases P var state app = shape_induction P var state (λ f ss each. app f ss)

pub config_cases : (P : Config → Type 0) → ((q : ℕ) → P (config.State q)) → ((f : ℕ) (cs : List Config) → P (config.App f cs)) → (c : Config) → P c
config_cases P state app = config_induction P state (λ f cs each. app f cs)

-- ---- configurations told apart

state_of : layer.Config-F Config → Option ℕ
state_of (layer.State q) = Some q
state_of (layer.App f cs) = None

pub same_state : (p q : ℕ) → config.State p ≡ config.State q → p ≡ q
unfolding state_of
same_state p q e =
    let h : Some p ≡ Some q = ap state_of (sym (config.outs-State p)) ∙ (ap (λ c. state_of (out-Config c)) e ∙ ap state_of (config.outs-State q)) in
    cc

pub state_no_app : (p f : ℕ) (cs : List Config) → config.State p ≡ config.App f cs → ⊥
unfolding state_of
state_no_app p f cs e =
    let h : Some p ≡ None = ap state_of (sym (config.outs-State p)) ∙ (ap (λ c. state_of (out-Config c)) e ∙ ap state_of (config.outs-App f cs)) in
    cc

-- ---- shapes with states for their variables

pub filled_var : (h : List ℕ) (τ : ℕ → ℕ) (v : ℕ) → filled h τ (shape.Var v) ≡ config.State (τ v)
filled_var h τ v = ap (filled h τ) (sym (shape.rolls-Var v)) ∙ fold-roll-Shape Config (filled_step h τ) (form.Var v)

pub filled_state : (h : List ℕ) (τ : ℕ → ℕ) (q : ℕ) → filled h τ (shape.State q) ≡ config.State (image h q)
filled_state h τ q = ap (filled h τ) (sym (shape.rolls-State q)) ∙ fold-roll-Shape Config (filled_step h τ) (form.State q)

pub filled_app : (h : List ℕ) (τ : ℕ → ℕ) (f : ℕ) (ss : List Shape) → filled h τ (shape.App f ss) ≡ config.App f (map (filled h τ) ss)
filled_app h τ f ss = ap (filled h τ) (sym (shape.rolls-App f ss)) ∙ fold-roll-Shape Config (filled_step h τ) (form.App f ss)

-- A step at a position is a step of the subterm there, which is put in its place.
use Rattle.std.proofs.Common.{◌≡◌, ◌↔◌, ℕ, List, [], ◌∷◌, ◌++◌, length, slice_get, Option, Some, None, refl, sym, subst, ◌∙◌, arith}
use Rattle.ranked_terms.specs.Terms.{instance_of}
use Rattle.ranked_terms.specs.Positions.{Argument, InArgument, SubtermAt, ReplacedAt}
use Rattle.ranked_terms.specs.declared.term.Term.{Term}
use Rattle.ranked_terms.specs.lemmas.TermLaws.{node_args}
use Rattle.trs_rules.specs.Rules.{RewriteRule}
use Rattle.trs_rules.specs.Steps.{RootStep, StepAt}
use Rattle.trs_rules.specs.Derivations.{IsStepBy}

seam_same : (xs ys : List Term) (v w : Term) (after rest : List Term) → length xs ≡ length ys → xs ++ v ∷ after ≡ ys ++ w ∷ rest → v ≡ w
seam_same [] [] v w after rest n e = cc
seam_same [] (y ∷ ys) v w after rest n e = absurd (omega (arith, n))
seam_same (x ∷ xs) [] v w after rest n e = absurd (omega (arith, n))
seam_same (x ∷ xs) (y ∷ ys) v w after rest n e =
    let h : xs ++ v ∷ after ≡ ys ++ w ∷ rest = cc in
    seam_same xs ys v w after rest (omega (arith, n)) h

-- the argument of a number is one
one_argument : (k : ℕ) (t v w : Term) → Argument k t v → Argument k t w → v ≡ w
one_argument k t v w a b =
    let p = a.place in let q = b.place in
    seam_same a.before b.before v w a.after b.after (omega (arith, p, q)) (node_args a.sym b.sym (a.before ++ v ∷ a.after) (b.before ++ w ∷ b.after) (sym a.is ∙ b.is))

as_argument : (Q : Term → Term → Type 0) (k : ℕ) (s t : Term) → (r : InArgument Q k s t) → Argument k s r.u
as_argument Q k s t r = record { sym = r.sym; before = r.before; after = r.after; place = r.place; is = r.from }

-- u is the subterm at the position, and t is s with v in its place
pub record Parts (R : List RewriteRule) (i : ℕ) (position : List ℕ) (s t : Term) : Type 0 where
  pub u : Term
  pub v : Term
  pub at : SubtermAt position s u
  pub replaced : ReplacedAt v position s t
  pub step : RootStep R i u v

pub parts_of_step : (R : List RewriteRule) (i : ℕ) (position : List ℕ) (s t : Term) → StepAt R i position s t → Parts R i position s t
parts_of_step R i [] s t h = record { u = s; v = t; at = refl; replaced = refl; step = h }
parts_of_step R i (k ∷ position) s t h =
    let r = parts_of_step R i position h.u h.v h.changes in
    record {
      u = r.u;
      v = r.v;
      at = (h.u, as_argument (StepAt R i position) k s t h, r.at);
      replaced = record { sym = h.sym; before = h.before; u = h.u; v = h.v; after = h.after; place = h.place; from = h.from; to = h.to; changes = r.replaced };
      step = r.step;
    }

pub step_of_parts : (R : List RewriteRule) (i : ℕ) (position : List ℕ) (s t u v : Term) → SubtermAt position s u → ReplacedAt v position s t → RootStep R i u v → StepAt R i position s t
step_of_parts R i [] s t u v a r h = subst (λ x. RootStep R i x t) a (subst (RootStep R i u) (sym r) h)
step_of_parts R i (k ∷ position) s t u v a r h =
    let same = one_argument k s a.0 r.u a.1 (as_argument (ReplacedAt v position) k s t r) in
    record {
      sym = r.sym;
      before = r.before;
      u = r.u;
      v = r.v;
      after = r.after;
      place = r.place;
      from = r.from;
      to = r.to;
      changes = step_of_parts R i position r.u r.v u v (subst (λ x. SubtermAt position x u) same a.2) r.changes h;
    }

-- ---- steps at the root by one rule

same_some : {X : Type 0} (x y : X) → Some x ≡ Some y → x ≡ y
same_some x y e = cc

pub root_step_of : (R : List RewriteRule) (i : ℕ) (rule : RewriteRule) (s t : Term) → slice_get R i ≡ Some rule → IsStepBy rule s t ↔ RootStep R i s t
root_step_of R i rule s t is = (
  λ h. record { rule = rule; is_rule = is; θ = h.θ; from = h.from; to = h.to },
  λ h.
      let e : h.rule ≡ rule = same_some h.rule rule (sym h.is_rule ∙ is) in
      record { θ = h.θ; from = subst (λ (r : RewriteRule). s ≡ instance_of h.θ r.left) e h.from; to = subst (λ (r : RewriteRule). t ≡ instance_of h.θ r.right) e h.to },
)

pub no_rule : (R : List RewriteRule) (i : ℕ) (position : List ℕ) (s t : Term) → slice_get R i ≡ None → StepAt R i position s t → ⊥
no_rule R i position s t e h = let p = parts_of_step R i position s t h in let is = p.step.is_rule in none_some (sym e ∙ is)
  where
    none_some : {X : Type 0} {x : X} → None ≡ Some x → ⊥
    none_some e = cc

-- where the code finds no parts, or these ones
pub no_parts : (R : List RewriteRule) (i : ℕ) (position : List ℕ) (s t : Term)
    → ((u v : Term) → SubtermAt position s u × ReplacedAt v position s t → ◌≡◌ {A = Option (Term × Term)} None (Some (u, v))) → StepAt R i position s t → ⊥
no_parts R i position s t n h = let p = parts_of_step R i position s t h in none_pair (p.u, p.v) (n p.u p.v (p.at, p.replaced))
  where
    none_pair : (x : Term × Term) → ◌≡◌ {A = Option (Term × Term)} None (Some x) → ⊥
    none_pair x e = cc

pub same_parts : (R : List RewriteRule) (i : ℕ) (position : List ℕ) (s t u v : Term)
    → (◌≡◌ {A = Option (Term × Term)} (Some (u, v)) (Some (u, v)) → SubtermAt position s u × ReplacedAt v position s t)
    → ((x y : Term) → SubtermAt position s x × ReplacedAt y position s t → ◌≡◌ {A = Option (Term × Term)} (Some (u, v)) (Some (x, y)))
    → RootStep R i u v ↔ StepAt R i position s t
same_parts R i position s t u v have only = (
  λ h. let p = have refl in step_of_parts R i position s t u v p.0 p.1 h,
  λ h.
      let p = parts_of_step R i position s t h in
      let e : ◌≡◌ {A = Term × Term} (u, v) (p.u, p.v) = some_pair (u, v) (p.u, p.v) (only p.u p.v (p.at, p.replaced)) in
      subst (λ (x : Term × Term). RootStep R i x.0 x.1) (sym e) p.step,
)
  where
    some_pair : (x y : Term × Term) → ◌≡◌ {A = Option (Term × Term)} (Some x) (Some y) → x ≡ y
    some_pair x y e = cc

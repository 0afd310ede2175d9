use Rattle.std.proofs.Common.{◌≡◌, ◌<◌, ◌==◌, ◌↔◌, ℕ, List, filter, length, Contains, refl, sym, ap, subst, ◌∙◌, arith}
use Rattle.std.specs.List.{list_any}
use Rattle.std.proofs.lemmas.Result.{IfOk-weaker}
use Rattle.list_laws.proofs.Members.{is_member}
use Rattle.ranked_terms.specs.Terms.{variables_of}
use Rattle.eq_merge.proofs.quotients.Filtered.{filter_has, filter_had}
use Rattle.eq_merge.proofs.finding.Equating.{few_left, few_right}
use Rattle.eq_merge.proofs.ends.shared_variables.Goals as goal

pub unreachable-requires : goal.unreachable-requires
unreachable-requires c =
    let m = subst (λ p. 16 < length (variables_of p)) c.left.ensures.side (c.in_default.ensures.refused.0 refl) in
    omega (arith, m, few_left c.args.equation.now c.left.ensures.equation)

pub unreachable-requires-in_default-of : goal.unreachable-requires-in_default-of
unreachable-requires-in_default-of c =
    let m = subst (λ p. 16 < length (variables_of p)) c.right.ensures.side (c.in_default-of.ensures.refused.0 refl) in
    omega (arith, m, few_right c.args.equation.now c.left.ensures.equation)

among : (xs ys all : List ℕ) → all ≡ filter (λ v. list_any (λ w. v == w) ys) xs → (v : ℕ) → Contains all v ↔ (Contains xs v × Contains ys v)
among xs ys all e v = (
  λ c. let h = filter_had (λ v. list_any (λ w. v == w) ys) xs v (subst (λ l. Contains l v) e c) in (h.0, (is_member ys v (list_any (λ w. v == w) ys) refl).0 h.1),
  λ h. subst (λ l. Contains l v) (sym e) (filter_has (λ v. list_any (λ w. v == w) ys) xs v h.0 ((is_member ys v (list_any (λ w. v == w) ys) refl).1 h.1)),
)

pub returns : goal.returns
returns c =
    let e = c.args.equation.now in
    let left : c.as_slice.result.now ≡ variables_of e.left = c.as_slice.ensures.value ∙ (c.in-Ok.ensures.ok ∙ ap variables_of c.left.ensures.side) in
    let right : c.as_slice-2.result.now ≡ variables_of e.right = c.as_slice-2.ensures.value ∙ (c.in-Ok-of.ensures.ok ∙ ap variables_of c.right.ensures.side) in
    IfOk-weaker c.in_both.result _ (λ all. (v : ℕ) → Contains all v ↔ (Contains (variables_of e.left) v × Contains (variables_of e.right) v))
    (λ all is. among (variables_of e.left) (variables_of e.right) all (is ∙ (λ i. filter (λ v. list_any (λ w. v == w) (right i)) (left i)))) c.in_both.ensures

use Rattle.std.proofs.Common.{◌≡◌, ◌↔◌, ◌≤◌, ◌-◌, ◌+◌, ◌<◌, ◌∷◌, ◌++◌, Some, take, drop, get_or, length, subst, sym, ap, ◌∙◌, arith}
use Rattle.std.proofs.lemmas.List.{drop_more}
use Rattle.ranked_terms.specs.Terms.{node}
use Rattle.ranked_terms.specs.declared.term.Term.{Term}
use Rattle.ranked_terms.specs.declared.term.Term.TheViews.{out-Term}
use Rattle.ranked_terms.specs.Positions.{ReplacedAt}
use Rattle.ranked_terms.proofs.places.PositionLaws.{args_of, is_replaced}
use Rattle.ranked_terms.proofs.subterm.+replace_from.Goals as goal

pub returns : goal.returns
returns t c u =
    let ks = c.args.numbers.now in let i = c.args.from in let k = get_or ks i 0 in let by = c.args.by.now in
    let term = c.args.term.now in let old = c.as_slice-old.result.now in let w = c.in-Some.inner in
    let e : old ≡ args_of term = c.as_slice-old.ensures in
    let lt : i < length ks = omega (arith, c.requires, c.if-from-numbers.false) in
    let few : k ≤ length (args_of term) = subst (λ ts. k ≤ length ts) e (omega (arith, c.if-old-number.false)) in
    let some : 1 ≤ k = omega (arith, c.if-number-eq0.false) in
    let inner = λ (x : Term). subst (λ o. (o ≡ Some x) ↔ ReplacedAt by (drop (i + 1) ks) c.index-old-number.result x) c.in-Some.is (c.in_ok-inner.ensures x) in
    let h = is_replaced by k (drop (i + 1) ks) term c.index-old-number.result some few (c.index-old-number.is ∙ ap (λ ts. get_or ts (k - 1) c.index-old-number.result) e) w inner u in
    let same = ap Some c.in_ok-replaced.ensures in
    let d = drop_more ks i 0 lt in
    (λ x. subst (λ p. ReplacedAt by p term u) (sym d) (h.0 (sym same ∙ x)), λ r. same ∙ h.1 (subst (λ p. ReplacedAt by p term u) d r))

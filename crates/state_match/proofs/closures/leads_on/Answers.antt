use Rattle.std.proofs.Common.{◌≡◌, length, take, get_or, Contains, sym, subst, ◌∙◌, ⊎_elim, arith}
use Rattle.std.proofs.lemmas.List.{take_all, take_more}
use Rattle.std.proofs.lemmas.List.Elements.{Contains-push_cases}
use Rattle.std.proofs.lemmas.Map.Views.{exact_unsigned_eq}
use Rattle.state_match.proofs.closures.leads_on.Goals as goal

pub loop-state-preserved : goal.loop-state-preserved
loop-state-preserved c p q i j =
    let list = c.as_slice-state-items.result.now in
    let k = c.loop-state.state-index in
    ⊎_elim
    (λ was. c.loop-state.invariant p q was j)
    (λ here.
    let empty : length c.eps_from.result.now ≡ 0 = exact_unsigned_eq _ _ (sym c.is_empty.ensures ∙ c.if-not-is_empty.false) in
    let at = (c.eps_from.ensures.members (p, q)).1 (j, sym here) in
    omega (arith, empty, at.1))
    (Contains-push_cases (take k list) (get_or list k 0) p (subst (λ xs. Contains xs p) (take_more list k 0 c.loop-state-test.true) i))

pub returns : goal.returns
returns c _ p q i j = c.loop-state.invariant p q (subst (λ xs. Contains xs p) (sym (take_all c.loop-state.state-index c.as_slice-state-items.result.now c.loop-state-test.false ∙ c.as_slice-state-items.ensures.value)) i) j

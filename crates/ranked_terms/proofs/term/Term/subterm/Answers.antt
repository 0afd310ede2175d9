use Rattle.std.proofs.Common.{◌≤◌, ◌-◌, ◌+◌, drop, get_or, length, subst, ap, ◌∙◌, arith}
use Rattle.ranked_terms.proofs.places.PositionLaws.{args_of, one_down, next_number}
use Rattle.ranked_terms.proofs.term.Term.subterm.Goals as goal

pub loop-i-preserved : goal.loop-i-preserved
loop-i-preserved c u =
    let ks = c.as_slice-numbers.result.now in let i = c.loop-i.i in let k = get_or ks i 0 in
    let e = c.as_slice-args.ensures in
    let few : k ≤ length (args_of c.loop-i.here.now) = subst (λ ts. k ≤ length ts) e (omega (arith, c.if-args-number.false)) in
    let some : 1 ≤ k = omega (arith, c.if-number-eq0.false) in
    let n = next_number ks i 0 c.loop-i.here.now u c.loop-i-test.true in
    let d = one_down k (drop (i + 1) ks) c.loop-i.here.now c.index-args-number.result u some few (c.index-args-number.is ∙ ap (λ ts. get_or ts (k - 1) c.index-args-number.result) e) in
    let h = c.loop-i.invariant u in
    (λ s. d.0 (n.0 (h.0 s)), λ s. h.1 (n.1 (d.1 s)))

use Rattle.std.proofs.Common.{◌+◌, ◌-◌, drop, get_or, refl, ap, ◌∙◌}
use Rattle.std.specs.Prelude.{IsTrue, false}
use Rattle.ranked_terms.specs.Positions.{IsSameBut}
use Rattle.ranked_terms.proofs.places.ChangeLaws.{change_down, next_change, not_replaced_by, change_here, no_pair}
use Rattle.ranked_terms.proofs.term.Term.changed_at.Goals as goal

pub returns-then-not-is_same_but : goal.returns-then-not-is_same_but
returns-then-not-is_same_but c u v =
    let ks = c.as_slice-numbers.result.now in let i = c.loop-i.i in let k = get_or ks i 0 in
    let s = c.loop-i.here.now in let t = c.loop-i.there.now in
    let other : IsSameBut k s t → ⊥ = λ h. let x : IsTrue false = c.if-not-is_same_but.ensures.1 h in cc in (
      λ e. no_pair (u, v) e,
      λ p. absurd (not_replaced_by k (drop (i + 1) ks) s t v other ((next_change ks i 0 s t u v c.loop-i-test.true).0 ((c.loop-i.invariant u v).0 p)).1),
    )

pub loop-i-preserved : goal.loop-i-preserved
loop-i-preserved c u v =
    let ks = c.as_slice-numbers.result.now in let i = c.loop-i.i in let k = get_or ks i 0 in
    let s = c.loop-i.here.now in let t = c.loop-i.there.now in
    let a = c.index-as_slice-number.result in let b = c.index-as_slice-number-in-loop-i.result in
    let same : IsSameBut k s t = c.if-not-is_same_but.ensures.0 refl in
    let is_a = c.index-as_slice-number.is ∙ ap (λ ts. get_or ts (k - 1) a) c.as_slice.ensures in
    let is_b = c.index-as_slice-number-in-loop-i.is ∙ ap (λ ts. get_or ts (k - 1) b) c.as_slice-in-loop-i.ensures in
    let n = next_change ks i 0 s t u v c.loop-i-test.true in
    let d = change_down k (drop (i + 1) ks) s t a b same is_a is_b u v in
    let h = c.loop-i.invariant u v in
    (λ p. d.0 (n.0 (h.0 p)), λ p. h.1 (n.1 (d.1 p)))

pub returns : goal.returns
returns c u v =
    let ends = change_here c.as_slice-numbers.result.now c.loop-i.i c.loop-i.here.now c.loop-i.there.now u v c.loop-i-test.false in
    let h = c.loop-i.invariant u v in
    (λ e. h.1 (ends.0 e), λ p. ends.1 (h.0 p))

use Rattle.std.proofs.Common.{◌≡◌, ◌≤◌, true, refl, inl, inr, arith}
use Rattle.ranked_terms.proofs.places.ChangeLaws.{not_same_but, fronts_same, backs_same, is_same_but_by, slices_same}
use Rattle.ranked_terms.proofs.subterm.is_same_but.Goals as goal
use Rattle.ranked_terms.proofs.subterm.is_same_but.Goals.{then-s-t-via-then-s-t, then-s-t-via-else-s-t+then-ss-ts, then-s-t-via-else-s-t+else-ss-ts+then-number-eq0, then-s-t-via-else-s-t+else-ss-ts+else-number-eq0+then-ss-number}

pub returns-then-s-t : goal.returns-then-s-t
returns-then-s-t c =
    let no = not_same_but c.args.number c.args.s.now c.args.t.now c.as_slice-ss.result.now c.as_slice-ts.result.now c.as_slice-ss.ensures c.as_slice-ts.ensures in (
      λ h. absurd (cc),
      λ h. absurd (elim c.then-s-t.branch [
        | then-s-t-via-then-s-t w ↦ no (inl w.if-s-t.true) h
        | then-s-t-via-else-s-t+then-ss-ts w ↦ no (inr (inl w.if-ss-ts.true)) h
        | then-s-t-via-else-s-t+else-ss-ts+then-number-eq0 w ↦ no (inr (inr (inl w.if-number-eq0.true))) h
        | then-s-t-via-else-s-t+else-ss-ts+else-number-eq0+then-ss-number w ↦ no (inr (inr (inr w.if-ss-number.true))) h
      ]),
    )

pub returns-then-are_equal : goal.returns-then-are_equal
returns-then-are_equal c =
    let k = c.args.number in let s = c.args.s.now in let t = c.args.t.now in let ss = c.as_slice-ss.result.now in let ts = c.as_slice-ts.result.now in
    let some : 1 ≤ k = omega (arith, c.if-number-eq0.false) in
    let slices = slices_same k s t ss ts c.as_slice-ss.ensures c.as_slice-ts.ensures c.if-ss-ts.false c.if-ss-number.false in (
      λ h. is_same_but_by k s t ss ts c.as_slice-ss.ensures c.as_slice-ts.ensures c.if-s-t.false c.if-ss-ts.false some c.if-ss-number.false (c.if-are_equal.ensures.0 refl) (slices.1 (c.are_equal-then-are_equal.ensures.0 h)),
      λ h. c.are_equal-then-are_equal.ensures.1 (slices.0 (backs_same k s t ss ts c.as_slice-ss.ensures c.as_slice-ts.ensures h)),
    )

pub returns-else-are_equal : goal.returns-else-are_equal
returns-else-are_equal c =
    let k = c.args.number in let s = c.args.s.now in let t = c.args.t.now in let ss = c.as_slice-ss.result.now in let ts = c.as_slice-ts.result.now in
    let bad = c.if-are_equal.false in (
      λ h. let e : c.are_equal.result ≡ true = h in absurd (cc),
      λ h. c.are_equal.ensures.1 (fronts_same k s t ss ts c.as_slice-ss.ensures c.as_slice-ts.ensures h),
    )

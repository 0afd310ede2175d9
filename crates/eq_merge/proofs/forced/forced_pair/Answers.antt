use Rattle.std.proofs.Common.{ℕ, ◌≤◌, ◌<◌, List, [], ◌++◌, map, get_or, length, Some, sym, ap, subst, ◌∙◌, arith}
use Rattle.std.specs.List.{AllZip}
use Rattle.eq_merge.specs.Ends.{AreEnds}
use Rattle.std.proofs.lemmas.List.{length-append, length-map}
use Rattle.std.proofs.lemmas.Option.{slice_get_past}
use Rattle.eq_merge.proofs.finding.ForcedRows.{row_up_to, all_forced, at_start, item_is, item_within, pair_in_row}
use Rattle.eq_merge.proofs.forced.forced_pair.Goals as goal

pub loop-p-init : goal.loop-p-init
loop-p-init c = ([], at_start, omega arith)

pub loop-p-preserved : goal.loop-p-preserved
loop-p-preserved c =
    let A = c.args.a.now in
    let items = c.states-p-items.result.now in
    let i = c.loop-p.p-index in
    let l = item_within A.states items i c.states-p-items.ensures.value c.loop-p-test.true in
    let is = item_is A.states items i c.states-p-items.ensures.value c.loop-p-test.true in
    let done = c.loop-p.invariant.0 in
    let here : List (ℕ × ℕ) = map (λ q. (get_or items i 0, q)) c.in_ok-row.row in (
      done ++ here,
      row_up_to c.lists_ascend.ensures.sound c.lists_ascend.ensures.order c.args.equations.now c.each_is_equation.ensures c.as_slice.result.now (subst (AllZip (AreEnds c.args.a.now) c.args.equations.now) (sym c.as_slice.ensures) c.in_ok-all.ensures) i (get_or items i 0) l is c.in_ok-row.row
          c.in_ok-row.ensures done c.loop-p.invariant.1,
      omega (arith, c.len-count.ensures, c.if-left-count.false, c.loop-p.invariant.2, length-append done here, length-map {B = ℕ × ℕ} c.in_ok-row.row (λ q. (get_or items i 0, q))),
    )

pub returns-then-left-count : goal.returns-then-left-count
returns-then-left-count c =
    let A = c.args.a.now in
    let items = c.states-p-items.result.now in
    let i = c.loop-p.p-index in
    let l = item_within A.states items i c.states-p-items.ensures.value c.loop-p-test.true in
    let is = item_is A.states items i c.states-p-items.ensures.value c.loop-p-test.true in
    let h = pair_in_row c.lists_ascend.ensures.sound c.lists_ascend.ensures.order c.args.equations.now c.each_is_equation.ensures c.as_slice.result.now
    (subst (AllZip (AreEnds A) c.args.equations.now) (sym c.as_slice.ensures) c.in_ok-all.ensures) i (get_or items i 0) l is c.in_ok-row.row c.in_ok-row.ensures
    c.runs_are_decided.ensures.plain_decided c.loop-p.invariant.0 c.loop-p.invariant.1 c.loop-p.left c.args.j (subst (λ n. c.loop-p.left < n) c.len-count.ensures c.if-left-count.true) c.loop-p.invariant.2 in
    (h.0, h.1, ap (λ xs. Some (get_or items i 0, get_or xs c.loop-p.left 0)) c.as_slice-then-left-count.ensures ∙ h.2)

pub returns : goal.returns
returns c =
    let A = c.args.a.now in
    let h = c.loop-p.invariant in
    let done = h.0 in
    (done, all_forced c.loop-p.p-index done (subst (λ xs. length xs ≤ c.loop-p.p-index) c.states-p-items.ensures.value c.loop-p-test.false) h.1, sym (slice_get_past done c.args.j (omega (arith, h.2))))

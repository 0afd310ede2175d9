use Rattle.std.proofs.Common.{ℕ, ◌≤◌, List, [], ◌++◌, map, get_or, length, refl, sym, ap, subst, arith}
use Rattle.std.specs.List.{AllZip}
use Rattle.eq_merge.specs.Ends.{AreEnds}
use Rattle.std.proofs.lemmas.List.{length-append, length-map}
use Rattle.eq_merge.proofs.finding.ForcedRows.{row_up_to, row_short, all_forced, at_start, states_few, item_is, item_within}
use Rattle.eq_merge.proofs.forced.forced_count.Goals as goal

pub overflow_add-count : goal.overflow_add-count
overflow_add-count c =
    let A = c.args.a.now in
    let items = c.states-p-items.result.now in
    let i = c.loop-p.p-index in
    let short = row_short c.lists_ascend.ensures.sound c.lists_ascend.ensures.order c.args.equations.now c.each_is_equation.ensures c.as_slice.result.now (subst (AllZip (AreEnds c.args.a.now) c.args.equations.now) (sym c.as_slice.ensures) c.in_ok-all.ensures) i (get_or items i 0)
    (item_within A.states items i c.states-p-items.ensures.value c.loop-p-test.true) (item_is A.states items i c.states-p-items.ensures.value c.loop-p-test.true) c.in_ok-row.row c.in_ok-row.ensures in
    omega (arith, short, c.len.ensures, c.loop-p.invariant.few, c.loop-p-test.true, ap length c.states-p-items.ensures.value, states_few c.lists_ascend.ensures.sound c.lists_ascend.ensures.order, c.next.ensures.few)

pub loop-p-init : goal.loop-p-init
loop-p-init c = record { counted = ([], at_start, refl); few = omega arith }

pub loop-p-preserved : goal.loop-p-preserved
loop-p-preserved c =
    let A = c.args.a.now in
    let items = c.states-p-items.result.now in
    let i = c.loop-p.p-index in
    let l = item_within A.states items i c.states-p-items.ensures.value c.loop-p-test.true in
    let is = item_is A.states items i c.states-p-items.ensures.value c.loop-p-test.true in
    let done = c.loop-p.invariant.counted.0 in
    let here : List (ℕ × ℕ) = map (λ q. (get_or items i 0, q)) c.in_ok-row.row in
    let short = row_short c.lists_ascend.ensures.sound c.lists_ascend.ensures.order c.args.equations.now c.each_is_equation.ensures c.as_slice.result.now (subst (AllZip (AreEnds c.args.a.now) c.args.equations.now) (sym c.as_slice.ensures) c.in_ok-all.ensures) i (get_or items i 0) l is
    c.in_ok-row.row c.in_ok-row.ensures in
    record {
      counted = (
        done ++ here,
        row_up_to c.lists_ascend.ensures.sound c.lists_ascend.ensures.order c.args.equations.now c.each_is_equation.ensures c.as_slice.result.now (subst (AllZip (AreEnds c.args.a.now) c.args.equations.now) (sym c.as_slice.ensures) c.in_ok-all.ensures) i (get_or items i 0) l is c.in_ok-row.row
            c.in_ok-row.ensures done c.loop-p.invariant.counted.1,
        omega (arith, c.len.ensures, c.loop-p.invariant.counted.2, length-append done here, length-map {B = ℕ × ℕ} c.in_ok-row.row (λ q. (get_or items i 0, q))),
      );
      few = omega (arith, short, c.len.ensures, c.loop-p.invariant.few, c.next.ensures.few);
    }

pub returns : goal.returns
returns c =
    let A = c.args.a.now in
    let h = c.loop-p.invariant.counted in
    (h.0, all_forced c.loop-p.p-index h.0 (subst (λ xs. length xs ≤ c.loop-p.p-index) c.states-p-items.ensures.value c.loop-p-test.false) h.1, h.2)

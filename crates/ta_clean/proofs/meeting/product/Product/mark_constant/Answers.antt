use Rattle.std.proofs.Common.{ℕ, Contains, sym, subst}
use Rattle.ta_core.specs.declared.trans.Trans.{Trans}
use Rattle.ta_clean.specs.Tables.{IsMarked}
use Rattle.ta_clean.specs.Products.{TwoAutomata, Enters}
use Rattle.ta_clean.proofs.marking.CommonTerms.{item_in, has_table, marking_starts, marking_more, marking_ends, enters_later}
use Rattle.ta_clean.proofs.meeting.product.Product.mark_constant.Goals as goal

pub enter-requires-clause-second : goal.enter-requires-clause-second
enter-requires-clause-second c =
    let known = (c.trans_with-right-items.ensures.members c.right-item.result).0 (item_in c.trans_with-right-items.result.now c.loop-right.right-index c.right-item.result c.loop-right-test.true c.right-item.is) in
    rw (← c.self.view_is) known.0

pub enter-requires-clause-same : goal.enter-requires-clause-same
enter-requires-clause-same c =
    sym ((c.trans_with-right-items.ensures.members c.right-item.result).0 (item_in c.trans_with-right-items.result.now c.loop-right.right-index c.right-item.result c.loop-right-test.true c.right-item.is)).1

pub loop-right-preserved : goal.loop-right-preserved
loop-right-preserved c =
    let both = c.args.self.now in
    let old = c.args.grid.now in
    let left = c.args.left.now in
    let now = c.loop-right.grid in
    let marked = c.enter.ensures in
    marking_more both (λ (right : Trans) (next : ℕ × ℕ). Enters both (IsMarked old) left right next) old c.trans_with-right-items.result.now c.loop-right.right-index c.right-item.result now c.enter.new.grid
    c.loop-right-test.true c.right-item.is c.loop-right.invariant marked.meets marked.kept (λ next e. marked.marked next (enters_later both (IsMarked old) (IsMarked now) c.loop-right.invariant.kept.marked left c.right-item.result next e))

pub returns-clause-marked : goal.returns-clause-marked
returns-clause-marked c right next e =
    let both = c.args.self.now in
    let items = c.trans_with-right-items.result.now in
    let all = marking_ends both (λ (right : Trans) (next : ℕ × ℕ). Enters both (IsMarked c.args.grid.now) c.args.left.now right next) c.args.grid.now items c.loop-right.right-index c.loop-right.grid c.loop-right-test.false c.loop-right.invariant in
    all.marked right next ((c.trans_with-right-items.ensures.members right).1 (subst (λ (both : TwoAutomata). Contains both.second.trans right) (sym c.self.view_is) e.second, sym e.same)) e

pub enter-requires-clause-table : goal.enter-requires-clause-table
enter-requires-clause-table c = has_table c.args.self.now c.args.grid.now c.loop-right.grid c.requires.table c.loop-right.invariant.kept

pub loop-right-init : goal.loop-right-init
loop-right-init c = marking_starts c.args.self.now (λ (right : Trans) (next : ℕ × ℕ). Enters c.args.self.now (IsMarked c.args.grid.now) c.args.left.now right next) c.args.grid.now c.requires.meets

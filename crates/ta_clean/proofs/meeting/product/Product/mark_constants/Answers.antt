use Rattle.std.proofs.Common.{ℕ, Contains, sym, subst}
use Rattle.ta_core.specs.declared.trans.Trans.{Trans}
use Rattle.ta_clean.specs.Products.{TwoAutomata, Enters}
use Rattle.ta_clean.specs.Tables.{Table, IsMarked}
use Rattle.ta_clean.proofs.marking.CommonTerms.{has_table, marking_starts, marking_more, marking_ends, enters_later, starts_at_constants, keeps_itself}
use Rattle.ta_clean.proofs.meeting.product.Product.mark_constants.Goals as goal
use Rattle.ta_clean.proofs.meeting.product.Product.mark_constants.Goals.{then-is_empty, else-is_empty}

pub loop-left-preserved : goal.loop-left-preserved
loop-left-preserved c =
    let both = c.args.self.now in
    let left = c.left-item.result in
    let now = c.loop-left.grid in
    let more = λ (new : Table). marking_more both (λ (left : Trans) (next : ℕ × ℕ). (right : Trans) × Enters both (λ _. ⊥) left right next) c.args.grid.now c.trans-left-items.result.now c.loop-left.left-index left now new c.loop-left-test.true c.left-item.is c.loop-left.invariant in
    elim c.if-is_empty.branch [
      | then-is_empty w ↦
          let marked = w.mark_constant.ensures in
          rw w.grid-is (more w.mark_constant.new.grid marked.meets marked.kept (λ next e. marked.marked e.0 next (enters_later both (λ _. ⊥) (IsMarked now) (λ p i. absurd i) left e.0 next e.1)))
      | else-is_empty w ↦
          rw w.grid-is (more now c.loop-left.invariant.meets (keeps_itself now) (λ next e. absurd (starts_at_constants both left e.0 next c.as_slice.result.now c.is_empty.result c.as_slice.ensures c.is_empty.ensures w.if-is_empty.false e.1)))
    ]

pub returns-clause-marked : goal.returns-clause-marked
returns-clause-marked c next s =
    let both = c.args.self.now in
    let items = c.trans-left-items.result.now in
    let all = marking_ends both (λ (left : Trans) (next : ℕ × ℕ). (right : Trans) × Enters both (λ _. ⊥) left right next) c.args.grid.now items c.loop-left.left-index c.loop-left.grid c.loop-left-test.false c.loop-left.invariant in
    let first = subst (λ (both : TwoAutomata). Contains both.first.trans s.left) (sym c.self.view_is) s.enters.first in
    all.marked s.left next (rw c.trans-left-items.ensures.value first) (s.right, s.enters)

pub mark_constant-requires-clause-table : goal.mark_constant-requires-clause-table
mark_constant-requires-clause-table c = has_table c.args.self.now c.args.grid.now c.loop-left.grid c.requires.table c.loop-left.invariant.kept

pub loop-left-init : goal.loop-left-init
loop-left-init c = marking_starts c.args.self.now (λ (left : Trans) (next : ℕ × ℕ). (right : Trans) × Enters c.args.self.now (λ _. ⊥) left right next) c.args.grid.now c.requires.meets

use Rattle.std.proofs.Common.{ℕ, get_or, subst}
use Rattle.std.proofs.lemmas.List.Elements.{Contains-get_or}
use Rattle.ta_clean.specs.Tables.{IsMarked}
use Rattle.ta_clean.specs.Products.{TwoAutomata, EntersBy}
use Rattle.ta_clean.specs.Uses.{AreUsesOf}
use Rattle.ta_clean.specs.declared.meeting.uses.Use.{Use}
use Rattle.ta_clean.proofs.marking.CommonTerms.{get_or_same, has_table, marking_starts, marking_more, marking_ends, enters_by_later, entered_at}
use Rattle.ta_clean.proofs.marking.UseLists.{use_of}
use Rattle.ta_clean.proofs.meeting.product.Product.follow_transitions.Goals as goal

pub follow_use-requires-clause-used : goal.follow_use-requires-clause-used
follow_use-requires-clause-used c =
    let items = c.of_state-used-items.result.now in
    let used = get_or items c.loop-used.used-index (use_of 0 0 0 0) in
    rw (← c.self.view_is) ((c.self.invariant.0 used).0 ((c.of_state-used-items.ensures used).0 (Contains-get_or items c.loop-used.used-index (use_of 0 0 0 0) c.loop-used-test.true)).0)

pub loop-used-preserved : goal.loop-used-preserved
loop-used-preserved c =
    let both = c.args.self.now in
    let old = c.args.grid.now in
    let now = c.loop-used.grid in
    let items = c.of_state-used-items.result.now in
    let k = c.loop-used.used-index in
    let used = get_or items k (use_of 0 0 0 0) in
    let marked = c.follow_use.ensures in
    marking_more both (λ (used : Use) (next : ℕ × ℕ). EntersBy both (IsMarked old) used c.args.second next) old items k used now c.follow_use.new.grid c.loop-used-test.true (get_or_same items k (use_of 0 0 0 0) c.loop-used-test.true) c.loop-used.invariant
    marked.meets marked.kept (λ next e. marked.marked next (enters_by_later both (IsMarked old) (IsMarked now) c.loop-used.invariant.kept.marked used c.args.second next e))

pub returns-clause-marked : goal.returns-clause-marked
returns-clause-marked c =
    let both = c.args.self.now in
    let old = c.args.grid.now in
    let items = c.of_state-used-items.result.now in
    let all = marking_ends both (λ (used : Use) (next : ℕ × ℕ). EntersBy both (IsMarked old) used c.args.second next) old items c.loop-used.used-index c.loop-used.grid c.loop-used-test.false c.loop-used.invariant in
    entered_at both (IsMarked old) c.loop-used.grid c.args.first c.args.second c.self.inside.first_uses.now.uses items
    (subst (λ (both : TwoAutomata). AreUsesOf both.first.trans c.self.inside.first_uses.now.uses) c.self.view_is c.self.invariant.0)
    c.of_state-used-items.ensures all.marked

pub follow_use-requires-clause-table : goal.follow_use-requires-clause-table
follow_use-requires-clause-table c = has_table c.args.self.now c.args.grid.now c.loop-used.grid c.requires.table c.loop-used.invariant.kept

pub loop-used-init : goal.loop-used-init
loop-used-init c = marking_starts c.args.self.now (λ (used : Use) (next : ℕ × ℕ). EntersBy c.args.self.now (IsMarked c.args.grid.now) used c.args.second next) c.args.grid.now c.requires.meets

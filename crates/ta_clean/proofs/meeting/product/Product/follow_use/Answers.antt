use Rattle.std.proofs.Common.{◌≡◌, ◌<◌, ℕ, Some, slice_get, length, get_or, sym, ap, subst, rules}
use Rattle.ta_clean.specs.Tables.{IsMarked}
use Rattle.ta_clean.specs.Products.{TwoAutomata}
use Rattle.ta_clean.specs.Uses.{IsUseOf, AreUsesOf}
use Rattle.ta_clean.specs.declared.meeting.uses.Slot.{Slot}
use Rattle.ta_clean.specs.declared.meeting.uses.Use.{Use}
use Rattle.ta_clean.proofs.marking.CommonTerms.{get_or_same, EntersWith, has_table, marking_starts, marking_more, marking_ends, enters_with, enters_later, entered_by}
use Rattle.ta_clean.proofs.marking.UseLists.{use_of, slot_use, used_trans, used_in, used_within, same_sym}
use Rattle.ta_clean.proofs.meeting.product.Product.follow_use.Goals as goal

pub offset_bounds-rights-other : goal.offset_bounds-rights-other
offset_bounds-rights-other c =
    let items = c.at_slot-other-items.result.now in
    let other = get_or items c.loop-other.other-index (use_of 0 0 0 0) in
    let found = slot_use c.self.inside.second.now.trans c.self.inside.second_uses.now.uses items _ c.self.invariant.1 c.at_slot-other-items.ensures c.loop-other.other-index (use_of 0 0 0 0) c.loop-other-test.true in
    let below : other.position < length c.trans-rights.result.now = used_within c.self.inside.second.now.trans c.trans-rights.result.now other c.trans-rights.ensures.value found.is in
    search rules

pub bounds-rights-other : goal.bounds-rights-other
bounds-rights-other c =
    let items = c.at_slot-other-items.result.now in
    let found = slot_use c.self.inside.second.now.trans c.self.inside.second_uses.now.uses items _ c.self.invariant.1 c.at_slot-other-items.ensures c.loop-other.other-index (use_of 0 0 0 0) c.loop-other-test.true in
    used_within c.self.inside.second.now.trans c.trans-rights.result.now (get_or items c.loop-other.other-index (use_of 0 0 0 0)) c.trans-rights.ensures.value found.is

pub enter-requires-clause-first : goal.enter-requires-clause-first
enter-requires-clause-first c =
    let lefts = c.self.inside.first.now.trans in
    let used : IsUseOf lefts c.args.used = subst (λ (both : TwoAutomata). IsUseOf both.first.trans c.args.used) (sym c.self.view_is) c.requires.used in
    rw (← c.self.view_is) (used_in lefts c.args.used c.index-trans-used.result (used_trans lefts c.trans.result.now c.args.used c.index-trans-used.result c.trans.ensures.value used c.index-trans-used.is))

pub enter-requires-clause-second : goal.enter-requires-clause-second
enter-requires-clause-second c =
    let rights = c.self.inside.second.now.trans in
    let items = c.at_slot-other-items.result.now in
    let other = get_or items c.loop-other.other-index (use_of 0 0 0 0) in
    let found = slot_use rights c.self.inside.second_uses.now.uses items _ c.self.invariant.1 c.at_slot-other-items.ensures c.loop-other.other-index (use_of 0 0 0 0) c.loop-other-test.true in
    rw (← c.self.view_is) (used_in rights other c.index-rights-other.result (used_trans rights c.trans-rights.result.now other c.index-rights-other.result c.trans-rights.ensures.value found.is c.index-rights-other.is))

pub enter-requires-clause-same : goal.enter-requires-clause-same
enter-requires-clause-same c =
    let lefts = c.self.inside.first.now.trans in
    let rights = c.self.inside.second.now.trans in
    let left = c.index-trans-used.result in
    let right = c.index-rights-other.result in
    let items = c.at_slot-other-items.result.now in
    let other = get_or items c.loop-other.other-index (use_of 0 0 0 0) in
    let used : IsUseOf lefts c.args.used = subst (λ (both : TwoAutomata). IsUseOf both.first.trans c.args.used) (sym c.self.view_is) c.requires.used in
    let found = slot_use rights c.self.inside.second_uses.now.uses items _ c.self.invariant.1 c.at_slot-other-items.ensures c.loop-other.other-index (use_of 0 0 0 0) c.loop-other-test.true in
    same_sym lefts rights c.args.used other left right used found.is
    (used_trans lefts c.trans.result.now c.args.used left c.trans.ensures.value used c.index-trans-used.is)
    (used_trans rights c.trans-rights.result.now other right c.trans-rights.ensures.value found.is c.index-rights-other.is)
    (ap (λ (s : Slot). s.sym) found.at)

pub loop-other-preserved : goal.loop-other-preserved
loop-other-preserved c =
    let both = c.args.self.now in
    let old = c.args.grid.now in
    let now = c.loop-other.grid in
    let items = c.at_slot-other-items.result.now in
    let k = c.loop-other.other-index in
    let other = get_or items k (use_of 0 0 0 0) in
    let left = c.index-trans-used.result in
    let right = c.index-rights-other.result in
    let rights = c.self.inside.second.now.trans in
    let found = slot_use rights c.self.inside.second_uses.now.uses items _ c.self.invariant.1 c.at_slot-other-items.ensures k (use_of 0 0 0 0) c.loop-other-test.true in
    let at = subst (λ (both : TwoAutomata). slice_get both.second.trans other.position ≡ Some right) c.self.view_is (used_trans rights c.trans-rights.result.now other right c.trans-rights.ensures.value found.is c.index-rights-other.is) in
    let marked = c.enter.ensures in
    marking_more both (λ (other : Use) (next : ℕ × ℕ). EntersWith both (IsMarked old) left other next) old items k other now c.enter.new.grid c.loop-other-test.true (get_or_same items k (use_of 0 0 0 0) c.loop-other-test.true) c.loop-other.invariant
    marked.meets marked.kept (λ next e. marked.marked next (enters_later both (IsMarked old) (IsMarked now) c.loop-other.invariant.kept.marked left right next (enters_with both (IsMarked old) left right other next at e)))

pub returns-clause-marked : goal.returns-clause-marked
returns-clause-marked c =
    let both = c.args.self.now in
    let old = c.args.grid.now in
    let items = c.at_slot-other-items.result.now in
    let left = c.index-trans-used.result in
    let lefts = c.self.inside.first.now.trans in
    let used : IsUseOf lefts c.args.used = subst (λ (both : TwoAutomata). IsUseOf both.first.trans c.args.used) (sym c.self.view_is) c.requires.used in
    let at = subst (λ (both : TwoAutomata). slice_get both.first.trans c.args.used.position ≡ Some left) c.self.view_is (used_trans lefts c.trans.result.now c.args.used left c.trans.ensures.value used c.index-trans-used.is) in
    let are = subst (λ (both : TwoAutomata). AreUsesOf both.second.trans c.self.inside.second_uses.now.uses) c.self.view_is c.self.invariant.1 in
    let all = marking_ends both (λ (other : Use) (next : ℕ × ℕ). EntersWith both (IsMarked old) left other next) old items c.loop-other.other-index c.loop-other.grid c.loop-other-test.false c.loop-other.invariant in
    entered_by both (IsMarked old) c.loop-other.grid left c.args.used c.args.second c.self.inside.second_uses.now.uses items c.requires.used at are c.at_slot-other-items.ensures all.marked

pub enter-requires-clause-table : goal.enter-requires-clause-table
enter-requires-clause-table c = has_table c.args.self.now c.args.grid.now c.loop-other.grid c.requires.table c.loop-other.invariant.kept

pub loop-other-init : goal.loop-other-init
loop-other-init c = marking_starts c.args.self.now (λ (other : Use) (next : ℕ × ℕ). EntersWith c.args.self.now (IsMarked c.args.grid.now) c.index-trans-used.result other next) c.args.grid.now c.requires.meets

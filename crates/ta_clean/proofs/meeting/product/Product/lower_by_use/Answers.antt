use Rattle.std.proofs.Common.{◌≡◌, ◌<◌, Some, slice_get, length, get_or, sym, subst, rules}
use Rattle.ta_core.specs.declared.trans.Trans.{Trans}
use Rattle.ta_clean.specs.Products.{TwoAutomata}
use Rattle.ta_clean.specs.Sizes.{Sizing, FollowedBy}
use Rattle.ta_clean.specs.Uses.{IsUseOf, AreUsesOf}
use Rattle.ta_clean.specs.declared.meeting.uses.Use.{Use}
use Rattle.ta_clean.proofs.marking.CommonTerms.{get_or_same}
use Rattle.ta_clean.proofs.marking.UseLists.{use_of, same_some, slot_use, used_trans, used_within}
use Rattle.ta_clean.proofs.least.Waiting.{has_lowered, lowering_starts, lowering_more, lowering_ends, followed_by_later, used_with}
use Rattle.ta_clean.proofs.meeting.product.Product.lower_by_use.Goals as goal

pub offset_bounds-rights-other : goal.offset_bounds-rights-other
offset_bounds-rights-other c =
    let items = c.at_slot-other-items.result.now in
    let other = get_or items c.loop-other.other-index (use_of 0 0 0 0) in
    let found = slot_use c.self.inside.second.now.trans c.self.inside.second_uses.now.uses items _ c.self.invariant.1 c.at_slot-other-items.ensures c.loop-other.other-index (use_of 0 0 0 0) c.loop-other-test.true in
    let below : other.position < length c.trans-rights.result.now = used_within c.self.inside.second.now.trans c.trans-rights.result.now other c.trans-rights.ensures.value found.is in
    search rules

pub bounds-rights-other : goal.bounds-rights-other
bounds-rights-other c =
    let items = c.at_slot-other-items.result.now in
    let found = slot_use c.self.inside.second.now.trans c.self.inside.second_uses.now.uses items _ c.self.invariant.1 c.at_slot-other-items.ensures c.loop-other.other-index (use_of 0 0 0 0) c.loop-other-test.true in
    used_within c.self.inside.second.now.trans c.trans-rights.result.now (get_or items c.loop-other.other-index (use_of 0 0 0 0)) c.trans-rights.ensures.value found.is

pub lower_by_two-requires-clause-at_left : goal.lower_by_two-requires-clause-at_left
lower_by_two-requires-clause-at_left c =
    let lefts = c.self.inside.first.now.trans in
    let left = c.index-trans-used.result in
    let used : IsUseOf lefts c.args.used = subst (λ (both : TwoAutomata). IsUseOf both.first.trans c.args.used) (sym c.self.view_is) c.requires.used in
    subst (λ (both : TwoAutomata). slice_get both.first.trans c.args.used.position ≡ Some left) c.self.view_is (used_trans lefts c.trans.result.now c.args.used left c.trans.ensures.value used c.index-trans-used.is)

pub lower_by_two-requires-clause-at_right : goal.lower_by_two-requires-clause-at_right
lower_by_two-requires-clause-at_right c =
    let rights = c.self.inside.second.now.trans in
    let items = c.at_slot-other-items.result.now in
    let k = c.loop-other.other-index in
    let other = get_or items k (use_of 0 0 0 0) in
    let right = c.index-rights-other.result in
    let found = slot_use rights c.self.inside.second_uses.now.uses items _ c.self.invariant.1 c.at_slot-other-items.ensures k (use_of 0 0 0 0) c.loop-other-test.true in
    subst (λ (both : TwoAutomata). slice_get both.second.trans other.position ≡ Some right) c.self.view_is (used_trans rights c.trans-rights.result.now other right c.trans-rights.ensures.value found.is c.index-rights-other.is)

pub lower_by_two-requires-clause-has : goal.lower_by_two-requires-clause-has
lower_by_two-requires-clause-has c = has_lowered c.args.self.now c.args.sizes.now c.loop-other.sizes c.requires.has c.loop-other.invariant.lowers

pub lower_by_two-requires-clause-made : goal.lower_by_two-requires-clause-made
lower_by_two-requires-clause-made c = c.loop-other.invariant.lowers.made

pub loop-other-init : goal.loop-other-init
loop-other-init c =
    let both = c.args.self.now in
    let left = c.index-trans-used.result in
    lowering_starts both (λ (other : Use) (s : Sizing). (right : Trans) → slice_get both.second.trans other.position ≡ Some right → FollowedBy left right s) c.args.sizes.now c.requires.made

pub loop-other-preserved : goal.loop-other-preserved
loop-other-preserved c =
    let both = c.args.self.now in
    let now = c.loop-other.sizes in
    let new = c.lower_by_two.new.sizes in
    let items = c.at_slot-other-items.result.now in
    let k = c.loop-other.other-index in
    let other = get_or items k (use_of 0 0 0 0) in
    let left = c.index-trans-used.result in
    let right = c.index-rights-other.result in
    let rights = c.self.inside.second.now.trans in
    let found = slot_use rights c.self.inside.second_uses.now.uses items _ c.self.invariant.1 c.at_slot-other-items.ensures k (use_of 0 0 0 0) c.loop-other-test.true in
    let at = subst (λ (both : TwoAutomata). slice_get both.second.trans other.position ≡ Some right) c.self.view_is (used_trans rights c.trans-rights.result.now other right c.trans-rights.ensures.value found.is c.index-rights-other.is) in
    lowering_more both (λ (other : Use) (s : Sizing). (right : Trans) → slice_get both.second.trans other.position ≡ Some right → FollowedBy left right s) c.args.sizes.now items k other now new c.loop-other-test.true (get_or_same items k (use_of 0 0 0 0) c.loop-other-test.true) c.loop-other.invariant c.lower_by_two.ensures.lowers
    (λ y f r i. followed_by_later both now new c.lower_by_two.ensures.lowers left r (f r i))
    (λ r i. subst (λ (t : Trans). FollowedBy left t new) (same_some right r at i) c.lower_by_two.ensures.followed)

pub returns-clause-lowers : goal.returns-clause-lowers
returns-clause-lowers c = c.loop-other.invariant.lowers

pub returns-clause-followed : goal.returns-clause-followed
returns-clause-followed c l r at_left i there =
    let both = c.args.self.now in
    let items = c.at_slot-other-items.result.now in
    let left = c.index-trans-used.result in
    let lefts = c.self.inside.first.now.trans in
    let used : IsUseOf lefts c.args.used = subst (λ (both : TwoAutomata). IsUseOf both.first.trans c.args.used) (sym c.self.view_is) c.requires.used in
    let at = subst (λ (both : TwoAutomata). slice_get both.first.trans c.args.used.position ≡ Some left) c.self.view_is (used_trans lefts c.trans.result.now c.args.used left c.trans.ensures.value used c.index-trans-used.is) in
    let are = subst (λ (both : TwoAutomata). AreUsesOf both.second.trans c.self.inside.second_uses.now.uses) c.self.view_is c.self.invariant.1 in
    let all = lowering_ends both (λ (other : Use) (s : Sizing). (right : Trans) → slice_get both.second.trans other.position ≡ Some right → FollowedBy left right s) c.args.sizes.now items c.loop-other.other-index c.loop-other.sizes c.loop-other-test.false c.loop-other.invariant in
    let done : FollowedBy left r c.loop-other.sizes = λ same count. (let w = used_with both left c.args.used c.args.second c.self.inside.second_uses.now.uses items c.requires.used at are c.at_slot-other-items.ensures r i there same in all.followed w.other w.has r w.at same count) in
    subst (λ (t : Trans). FollowedBy t r c.loop-other.sizes) (same_some left l at at_left) done

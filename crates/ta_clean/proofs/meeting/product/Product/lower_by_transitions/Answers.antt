use Rattle.std.proofs.Common.{◌≡◌, Some, slice_get, Contains, get_or, subst}
use Rattle.std.proofs.lemmas.List.Elements.{Contains-get_or}
use Rattle.ta_core.specs.declared.trans.Trans.{Trans}
use Rattle.ta_clean.specs.Products.{TwoAutomata}
use Rattle.ta_clean.specs.Sizes.{Sizing, FollowedBy}
use Rattle.ta_clean.specs.Uses.{AreUsesOf}
use Rattle.ta_clean.specs.declared.meeting.uses.Use.{Use}
use Rattle.ta_clean.proofs.marking.CommonTerms.{get_or_same}
use Rattle.ta_clean.proofs.marking.UseLists.{use_of}
use Rattle.ta_clean.proofs.least.Waiting.{has_lowered, lowering_starts, lowering_more, lowering_ends, followed_by_later, used_at}
use Rattle.ta_clean.proofs.meeting.product.Product.lower_by_transitions.Goals as goal

pub lower_by_use-requires-clause-used : goal.lower_by_use-requires-clause-used
lower_by_use-requires-clause-used c =
    let items = c.of_state-used-items.result.now in
    let used = get_or items c.loop-used.used-index (use_of 0 0 0 0) in
    rw (← c.self.view_is) ((c.self.invariant.0 used).0 ((c.of_state-used-items.ensures used).0 (Contains-get_or items c.loop-used.used-index (use_of 0 0 0 0) c.loop-used-test.true)).0)

pub lower_by_use-requires-clause-has : goal.lower_by_use-requires-clause-has
lower_by_use-requires-clause-has c = has_lowered c.args.self.now c.args.sizes.now c.loop-used.sizes c.requires.has c.loop-used.invariant.lowers

pub lower_by_use-requires-clause-made : goal.lower_by_use-requires-clause-made
lower_by_use-requires-clause-made c = c.loop-used.invariant.lowers.made

pub loop-used-init : goal.loop-used-init
loop-used-init c = let both = c.args.self.now in lowering_starts both (λ (used : Use) (s : Sizing). (left right : Trans) → slice_get both.first.trans used.position ≡ Some left → Contains both.second.trans right → slice_get right.args used.slot.place ≡ Some c.args.second → FollowedBy left right s) c.args.sizes.now c.requires.made

pub loop-used-preserved : goal.loop-used-preserved
loop-used-preserved c =
    let both = c.args.self.now in
    let now = c.loop-used.sizes in
    let new = c.lower_by_use.new.sizes in
    let items = c.of_state-used-items.result.now in
    let k = c.loop-used.used-index in
    let used = get_or items k (use_of 0 0 0 0) in
    lowering_more both (λ (used : Use) (s : Sizing). (left right : Trans) → slice_get both.first.trans used.position ≡ Some left → Contains both.second.trans right → slice_get right.args used.slot.place ≡ Some c.args.second → FollowedBy left right s) c.args.sizes.now items k used now new c.loop-used-test.true (get_or_same items k (use_of 0 0 0 0) c.loop-used-test.true) c.loop-used.invariant c.lower_by_use.ensures.lowers
    (λ y f l r at i there. followed_by_later both now new c.lower_by_use.ensures.lowers l r (f l r at i there))
    c.lower_by_use.ensures.followed

pub returns-clause-lowers : goal.returns-clause-lowers
returns-clause-lowers c = c.loop-used.invariant.lowers

pub returns-clause-followed : goal.returns-clause-followed
returns-clause-followed c left right l r i =
    let both = c.args.self.now in
    let items = c.of_state-used-items.result.now in
    let all = lowering_ends both (λ (used : Use) (s : Sizing). (left right : Trans) → slice_get both.first.trans used.position ≡ Some left → Contains both.second.trans right → slice_get right.args used.slot.place ≡ Some c.args.second → FollowedBy left right s) c.args.sizes.now items c.loop-used.used-index c.loop-used.sizes c.loop-used-test.false c.loop-used.invariant in
    let u = used_at both c.args.first c.args.second c.self.inside.first_uses.now.uses items (subst (λ (both : TwoAutomata). AreUsesOf both.first.trans c.self.inside.first_uses.now.uses) c.self.view_is c.self.invariant.0) c.of_state-used-items.ensures left right l i in
    all.followed u.used u.has left right u.at r u.there

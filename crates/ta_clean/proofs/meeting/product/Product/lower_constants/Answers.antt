use Rattle.std.proofs.Common.{◌≡◌, ◌==◌, ◌∙◌, List, Some, Contains, length, slice_get, sym, ap, subst, true≢false}
use Rattle.std.proofs.lemmas.Option.{slice_get-get_or}
use Rattle.ta_core.specs.declared.trans.Trans.{Trans}
use Rattle.ta_clean.specs.Products.{TwoAutomata}
use Rattle.ta_clean.specs.Sizes.{Sizing, FollowedBy}
use Rattle.ta_clean.proofs.least.Waiting.{has_lowered, lowers_itself, lowering_starts, lowering_more, lowering_ends, followed_by_later}
use Rattle.ta_clean.proofs.meeting.product.Product.lower_constants.Goals as goal
use Rattle.ta_clean.proofs.meeting.product.Product.lower_constants.Goals.{then-is_empty, else-is_empty}

pub loop-place-init : goal.loop-place-init
loop-place-init c = let both = c.args.self.now in lowering_starts both (λ (left : Trans) (s : Sizing). length left.args ≡ 0 → (right : Trans) → Contains both.second.trans right → FollowedBy left right s) c.args.sizes.now c.requires.made

pub lower_constant-requires-clause-at : goal.lower_constant-requires-clause-at
lower_constant-requires-clause-at c =
    let k = c.loop-place.place in
    let left = c.index-lefts-place.result in
    subst (λ (both : TwoAutomata). slice_get both.first.trans k ≡ Some left) c.self.view_is
    (ap (λ (ts : List Trans). slice_get ts k) (sym c.trans-lefts.ensures.value) ∙ (slice_get-get_or c.trans-lefts.result.now k left c.loop-place-test.true ∙ ap Some (sym c.index-lefts-place.is)))

pub lower_constant-requires-clause-has : goal.lower_constant-requires-clause-has
lower_constant-requires-clause-has c = has_lowered c.args.self.now c.args.sizes.now c.loop-place.sizes c.requires.has c.loop-place.invariant.lowers

pub lower_constant-requires-clause-made : goal.lower_constant-requires-clause-made
lower_constant-requires-clause-made c = c.loop-place.invariant.lowers.made

pub loop-place-preserved : goal.loop-place-preserved
loop-place-preserved c =
    let both = c.args.self.now in
    let left = c.index-lefts-place.result in
    let now = c.loop-place.sizes in
    let k = c.loop-place.place in
    let more = λ (new : Sizing). lowering_more both (λ (left : Trans) (s : Sizing). length left.args ≡ 0 → (right : Trans) → Contains both.second.trans right → FollowedBy left right s) c.args.sizes.now c.trans-lefts.result.now k left now new c.loop-place-test.true c.index-lefts-place.is c.loop-place.invariant in
    elim c.if-is_empty.branch [
      | then-is_empty w ↦
          let lowers = w.lower_constant.ensures.lowers in
          let new = w.lower_constant.new.sizes in
          rw w.sizes-is (more new lowers (λ y f e r i. followed_by_later both now new lowers y r (f e r i)) (λ e r i. w.lower_constant.ensures.followed r i))
      | else-is_empty w ↦
          rw w.sizes-is (more now (lowers_itself both now c.loop-place.invariant.lowers.made) (λ y f. f) (λ e r i. absurd (true≢false (sym (ap (λ n. n == 0) (ap length c.as_slice.ensures ∙ e)) ∙ (sym c.is_empty.ensures ∙ w.if-is_empty.false)))))
    ]

pub returns-clause-lowers : goal.returns-clause-lowers
returns-clause-lowers c = c.loop-place.invariant.lowers

pub returns-clause-followed : goal.returns-clause-followed
returns-clause-followed c left l e =
    let both = c.args.self.now in
    let is = c.trans-lefts.ensures.value ∙ ap (λ (both : TwoAutomata). both.first.trans) c.self.view_is in
    let all = lowering_ends both (λ (left : Trans) (s : Sizing). length left.args ≡ 0 → (right : Trans) → Contains both.second.trans right → FollowedBy left right s) c.args.sizes.now c.trans-lefts.result.now c.loop-place.place c.loop-place.sizes c.loop-place-test.false c.loop-place.invariant in
    all.followed left (subst (λ (ts : List Trans). Contains ts left) (sym is) l) e

use Rattle.std.proofs.Common.{◌≡◌, ◌∙◌, List, Some, slice_get, sym, ap, subst, ⊎_elim, arith}
use Rattle.std.proofs.lemmas.Bool.{cases_lt}
use Rattle.std.proofs.lemmas.Option.{slice_get-get_or}
use Rattle.ta_core.specs.declared.trans.Trans.{Trans}
use Rattle.ta_clean.specs.Products.{TwoAutomata}
use Rattle.ta_clean.specs.Sizes.{FollowedBy}
use Rattle.ta_clean.proofs.marking.UseLists.{same_some}
use Rattle.ta_clean.proofs.least.Waiting.{has_lowered, lowers_itself, lowers_on, followed_by_later}
use Rattle.ta_clean.proofs.meeting.product.Product.lower_constant.Goals as goal

pub loop-other-init : goal.loop-other-init
loop-other-init c = record {
  lowers = lowers_itself c.args.self.now c.args.sizes.now c.requires.made;
  followed = λ k low high right at. absurd (omega (arith, low, high));
}

pub lower_by_two-requires-clause-at_right : goal.lower_by_two-requires-clause-at_right
lower_by_two-requires-clause-at_right c =
    let k = c.loop-other.other in
    let right = c.index-rights-other.result in
    subst (λ (both : TwoAutomata). slice_get both.second.trans k ≡ Some right) c.self.view_is
    (ap (λ (ts : List Trans). slice_get ts k) (sym c.trans-rights.ensures.value) ∙ (slice_get-get_or c.trans-rights.result.now k right (omega (arith, c.loop-other-test.true, c.places_with-start.ensures.within)) ∙ ap Some (sym c.index-rights-other.is)))

pub lower_by_two-requires-clause-has : goal.lower_by_two-requires-clause-has
lower_by_two-requires-clause-has c = has_lowered c.args.self.now c.args.sizes.now c.loop-other.sizes c.requires.has c.loop-other.invariant.lowers

pub lower_by_two-requires-clause-made : goal.lower_by_two-requires-clause-made
lower_by_two-requires-clause-made c = c.loop-other.invariant.lowers.made

pub loop-other-preserved : goal.loop-other-preserved
loop-other-preserved c =
    let both = c.args.self.now in
    let old = c.args.sizes.now in
    let now = c.loop-other.sizes in
    let new = c.lower_by_two.new.sizes in
    let k = c.loop-other.other in
    let right = c.index-rights-other.result in
    let here : slice_get both.second.trans k ≡ Some right = subst (λ (both : TwoAutomata). slice_get both.second.trans k ≡ Some right) c.self.view_is
    (ap (λ (ts : List Trans). slice_get ts k) (sym c.trans-rights.ensures.value) ∙ (slice_get-get_or c.trans-rights.result.now k right (omega (arith, c.loop-other-test.true, c.places_with-start.ensures.within)) ∙ ap Some (sym c.index-rights-other.is))) in
    record {
      lowers = lowers_on both old now new c.loop-other.invariant.lowers c.lower_by_two.ensures.lowers;
      followed = λ j low high r at. ⊎_elim
          (λ before. followed_by_later both now new c.lower_by_two.ensures.lowers c.args.left.now r (c.loop-other.invariant.followed j low before r at))
          (λ last.
          let same : j ≡ k = omega (arith, high, last) in
          subst (λ (t : Trans). FollowedBy c.args.left.now t new) (same_some right r here (ap (λ n. slice_get both.second.trans n) (sym same) ∙ at)) c.lower_by_two.ensures.followed)
          (cases_lt j k);
    }

pub returns-clause-lowers : goal.returns-clause-lowers
returns-clause-lowers c = c.loop-other.invariant.lowers

pub returns-clause-followed : goal.returns-clause-followed
returns-clause-followed c right i same count =
    let both = c.args.self.now in
    let at : slice_get both.second.trans i.0 ≡ Some right = slice_get-get_or both.second.trans i.0 right i.1 ∙ ap Some i.2 in
    let read : slice_get c.trans-rights.result.now i.0 ≡ Some right = ap (λ (ts : List Trans). slice_get ts i.0) (c.trans-rights.ensures.value ∙ ap (λ (both : TwoAutomata). both.second.trans) c.self.view_is) ∙ at in
    let low = c.places_with-start.ensures.start i.0 right read (sym same) in
    let high = c.places_with-start.ensures.end i.0 right read (sym same) in
    c.loop-other.invariant.followed i.0 low (omega (arith, high, c.loop-other-test.false)) right at same count

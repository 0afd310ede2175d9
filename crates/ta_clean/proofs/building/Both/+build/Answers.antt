use Rattle.std.proofs.Common.{◌+◌, ◌<◌, ◌≤◌, ℕ, List, length, get_or, refl, sym, ap, subst, ◌∙◌, arith, rules}
use Rattle.ta_core.specs.TreeAutomaton.{IsSound}
use Rattle.ta_clean.specs.Products.{TwoAutomata}
use Rattle.ta_clean.specs.Sizes.{IsPairOf, size_at, sum_at}
use Rattle.ta_clean.proofs.least.Building.{left_within, right_within, same_count, sum_less, left_in, right_in, term_is_built, argument_less, argument_in, AreBuilt, built_more}
use Rattle.ta_clean.proofs.building.Both.+build.Goals as goal

pub offset_bounds-trans-made : goal.offset_bounds-trans-made
offset_bounds-trans-made t c =
    let pair : ℕ × ℕ = (c.args.first, c.args.second) in
    let m = c.requires.made pair c.requires.within c.requires.small in
    let lefts = c.trans.ensures.value ∙ ap (λ (both : TwoAutomata). both.first.trans) c.self.view_is in
    let below : c.get-made.result.left < length c.trans.result.now = left_within c.args.self.now c.args.sizes.now pair m c.get-made.result c.get-made.ensures.value c.trans.result.now _ lefts refl in
    search rules

pub bounds-trans-made : goal.bounds-trans-made
bounds-trans-made t c =
    let pair : ℕ × ℕ = (c.args.first, c.args.second) in
    let m = c.requires.made pair c.requires.within c.requires.small in
    let lefts = c.trans.ensures.value ∙ ap (λ (both : TwoAutomata). both.first.trans) c.self.view_is in
    left_within c.args.self.now c.args.sizes.now pair m c.get-made.result c.get-made.ensures.value c.trans.result.now _ lefts refl

pub offset_bounds-trans-made-2 : goal.offset_bounds-trans-made-2
offset_bounds-trans-made-2 t c =
    let pair : ℕ × ℕ = (c.args.first, c.args.second) in
    let m = c.requires.made pair c.requires.within c.requires.small in
    let rights = c.trans-2.ensures.value ∙ ap (λ (both : TwoAutomata). both.second.trans) c.self.view_is in
    let below : c.get-made.result.right < length c.trans-2.result.now = right_within c.args.self.now c.args.sizes.now pair m c.get-made.result c.get-made.ensures.value _ c.trans-2.result.now refl rights in
    search rules

pub bounds-trans-made-2 : goal.bounds-trans-made-2
bounds-trans-made-2 t c =
    let pair : ℕ × ℕ = (c.args.first, c.args.second) in
    let m = c.requires.made pair c.requires.within c.requires.small in
    let rights = c.trans-2.ensures.value ∙ ap (λ (both : TwoAutomata). both.second.trans) c.self.view_is in
    right_within c.args.self.now c.args.sizes.now pair m c.get-made.result c.get-made.ensures.value _ c.trans-2.result.now refl rights

pub bounds-seconds-place : goal.bounds-seconds-place
bounds-seconds-place t c =
    let pair : ℕ × ℕ = (c.args.first, c.args.second) in
    let m = c.requires.made pair c.requires.within c.requires.small in
    let lefts = c.trans.ensures.value ∙ ap (λ (both : TwoAutomata). both.first.trans) c.self.view_is in
    let rights = c.trans-2.ensures.value ∙ ap (λ (both : TwoAutomata). both.second.trans) c.self.view_is in
    let count = same_count c.args.self.now c.args.sizes.now pair m c.get-made.result c.get-made.ensures.value c.trans.result.now c.trans-2.result.now lefts rights c.index-trans-made.result c.index-trans-made-2.result c.index-trans-made.is c.index-trans-made-2.is in
    omega (arith, count, c.loop-place-test.true, ap length c.as_slice-firsts.ensures, ap length c.as_slice-seconds.ensures)

pub build-requires : goal.build-requires
build-requires t c =
    let pair : ℕ × ℕ = (c.args.first, c.args.second) in
    let both = c.args.self.now in
    let s = c.args.sizes.now in
    let k = c.loop-place.place in
    let left = c.index-trans-made.result in
    let right = c.index-trans-made-2.result in
    let m = c.requires.made pair c.requires.within c.requires.small in
    let lefts = c.trans.ensures.value ∙ ap (λ (both : TwoAutomata). both.first.trans) c.self.view_is in
    let rights = c.trans-2.ensures.value ∙ ap (λ (both : TwoAutomata). both.second.trans) c.self.view_is in
    let count = same_count both s pair m c.get-made.result c.get-made.ensures.value c.trans.result.now c.trans-2.result.now lefts rights left right c.index-trans-made.is c.index-trans-made-2.is in
    let less = sum_less both s pair m c.get-made.result c.get-made.ensures.value c.trans.result.now c.trans-2.result.now lefts rights left right c.index-trans-made.is c.index-trans-made-2.is in
    let inside : k < length left.args = omega (arith, c.loop-place-test.true, ap length c.as_slice-firsts.ensures) in
    let part = subst (λ (xs : List ℕ). size_at s (get_or xs k 0, get_or c.as_slice-seconds.result.now k 0) ≤ sum_at s left.args right.args) (sym c.as_slice-firsts.ensures) (subst (λ (ys : List ℕ). size_at s (get_or left.args k 0, get_or ys k 0) ≤ sum_at s left.args right.args) (sym c.as_slice-seconds.ensures) (argument_less both s left.args right.args k count inside)) in
    let within = subst (λ (xs : List ℕ). IsPairOf s (get_or xs k 0, get_or c.as_slice-seconds.result.now k 0)) (sym c.as_slice-firsts.ensures) (subst (λ (ys : List ℕ). IsPairOf s (get_or left.args k 0, get_or ys k 0)) (sym c.as_slice-seconds.ensures)
    (argument_in both s left right k (subst (λ (both : TwoAutomata). IsSound both.first) c.self.view_is c.next.ensures.sound) (subst (λ (both : TwoAutomata). IsSound both.second) c.self.view_is c.next-2.ensures.sound) c.requires.has
    (left_in both s pair m c.get-made.result c.get-made.ensures.value c.trans.result.now c.trans-2.result.now lefts rights left right c.index-trans-made.is c.index-trans-made-2.is)
    (right_in both s pair m c.get-made.result c.get-made.ensures.value c.trans.result.now c.trans-2.result.now lefts rights left right c.index-trans-made.is c.index-trans-made-2.is) count inside)) in
    (omega (arith, c.decreases, part, less), (c.requires.made, (c.requires.has, (within, omega (arith, part, less, c.requires.small)))))

pub loop-place-preserved : goal.loop-place-preserved
loop-place-preserved t c =
    let pair : ℕ × ℕ = (c.args.first, c.args.second) in
    let m = c.requires.made pair c.requires.within c.requires.small in
    let lefts = c.trans.ensures.value ∙ ap (λ (both : TwoAutomata). both.first.trans) c.self.view_is in
    let rights = c.trans-2.ensures.value ∙ ap (λ (both : TwoAutomata). both.second.trans) c.self.view_is in
    let count = same_count c.args.self.now c.args.sizes.now pair m c.get-made.result c.get-made.ensures.value c.trans.result.now c.trans-2.result.now lefts rights c.index-trans-made.result c.index-trans-made-2.result c.index-trans-made.is c.index-trans-made-2.is in
    let more = built_more c.args.self.now c.args.sizes.now c.as_slice-firsts.result.now c.as_slice-seconds.result.now c.loop-place.place c.loop-place.args c.in_ok-arg.arg (ap length c.as_slice-firsts.ensures ∙ (count ∙ sym (ap length c.as_slice-seconds.ensures))) c.loop-place-test.true c.loop-place.invariant c.in_ok-arg.ensures in
    subst (AreBuilt c.args.self.now c.args.sizes.now c.as_slice-firsts.result.now c.as_slice-seconds.result.now (c.loop-place.place + 1)) (sym c.in_ok-push.ensures.ok) more

pub returns : goal.returns
returns t c =
    let pair : ℕ × ℕ = (c.args.first, c.args.second) in
    let m = c.requires.made pair c.requires.within c.requires.small in
    let lefts = c.trans.ensures.value ∙ ap (λ (both : TwoAutomata). both.first.trans) c.self.view_is in
    let rights = c.trans-2.ensures.value ∙ ap (λ (both : TwoAutomata). both.second.trans) c.self.view_is in
    term_is_built c.args.self.now c.args.sizes.now pair m c.get-made.result c.get-made.ensures.value c.trans.result.now c.trans-2.result.now lefts rights c.index-trans-made.result c.index-trans-made-2.result c.index-trans-made.is c.index-trans-made-2.is
    c.loop-place.place c.as_slice-firsts.result.now c.as_slice-seconds.result.now c.loop-place.args c.as_slice-firsts.ensures c.as_slice-seconds.ensures c.loop-place-test.false c.loop-place.invariant

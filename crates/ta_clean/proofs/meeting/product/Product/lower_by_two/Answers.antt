use Rattle.std.proofs.Common.{◌≡◌, ◌∙◌, ℕ, List, length, zip, sym, ap, subst, ⊎_elim, arith}
use Rattle.std.proofs.lemmas.Bool.{cases_lt}
use Rattle.ta_core.specs.TreeAutomaton.{IsSound}
use Rattle.ta_clean.specs.Products.{TwoAutomata}
use Rattle.ta_clean.specs.Sizes.{Lowers, sum_at}
use Rattle.ta_clean.proofs.least.Lowering.{made_of, two_made, targets_in, at_contains}
use Rattle.ta_clean.proofs.least.Waiting.{lowers_itself, may_lower, may_reach, followed_now}
use Rattle.ta_clean.proofs.meeting.product.Product.lower_by_two.Goals as goal

pub lower-requires : goal.lower-requires
lower-requires c =
    let both = c.args.self.now in
    targets_in both c.args.sizes.now c.requires.has (subst (λ (both : TwoAutomata). IsSound both.first) c.self.view_is c.next.ensures.sound) (subst (λ (both : TwoAutomata). IsSound both.second) c.self.view_is c.next-2.ensures.sound)
    c.args.left.now c.args.right.now (at_contains both.first.trans c.args.place c.args.left.now c.requires.at_left) (at_contains both.second.trans c.args.other c.args.right.now c.requires.at_right)

pub returns-then-left-right-clause-lowers : goal.returns-then-left-right-clause-lowers
returns-then-left-right-clause-lowers c = lowers_itself c.args.self.now c.args.sizes.now c.requires.made

pub returns-then-left-right-clause-followed : goal.returns-then-left-right-clause-followed
returns-then-left-right-clause-followed c same count = absurd (c.if-left-right.true same)

pub returns-then-firsts-seconds-clause-lowers : goal.returns-then-firsts-seconds-clause-lowers
returns-then-firsts-seconds-clause-lowers c = lowers_itself c.args.self.now c.args.sizes.now c.requires.made

pub returns-then-firsts-seconds-clause-followed : goal.returns-then-firsts-seconds-clause-followed
returns-then-firsts-seconds-clause-followed c same count = absurd (c.if-firsts-seconds.true (ap length c.as_slice-firsts.ensures ∙ (count ∙ sym (ap length c.as_slice-seconds.ensures))))

pub returns-clause-lowers : goal.returns-clause-lowers
returns-clause-lowers c =
    let both = c.args.self.now in
    let old = c.args.sizes.now in
    let left = c.args.left.now in
    let right = c.args.right.now in
    let size = c.sum_of-size.result in
    let first = subst (λ (both : TwoAutomata). IsSound both.first) c.self.view_is c.next.ensures.sound in
    let second = subst (λ (both : TwoAutomata). IsSound both.second) c.self.view_is c.next-2.ensures.sound in
    let count = sym (ap length c.as_slice-firsts.ensures) ∙ (c.if-firsts-seconds.false ∙ ap length c.as_slice-seconds.ensures) in
    let sums : sum_at old c.as_slice-firsts.result.now c.as_slice-seconds.result.now ≡ sum_at old left.args right.args =
    ap (λ (xs : List ℕ). sum_at old xs c.as_slice-seconds.result.now) c.as_slice-firsts.ensures ∙ ap (λ (ys : List ℕ). sum_at old left.args ys) c.as_slice-seconds.ensures in
    let target = targets_in both old c.requires.has first second left right (at_contains both.first.trans c.args.place left c.requires.at_left) (at_contains both.second.trans c.args.other right c.requires.at_right) in
    may_lower both old c.lower.new.self (left.to, right.to) (made_of size c.args.place c.args.other) c.lower.ensures.table target c.requires.made
    (λ less. two_made both old c.requires.has first second c.lower.ensures.table left right c.args.place c.args.other size c.requires.at_left c.requires.at_right c.if-left-right.false count
    (λ l. let e = c.sum_of-size.ensures.small l in omega (arith, e, sums)) less)
    c.lower.ensures.may

pub returns-clause-followed : goal.returns-clause-followed
returns-clause-followed c same count =
    let both = c.args.self.now in
    let old = c.args.sizes.now in
    let new = c.lower.new.self in
    let left = c.args.left.now in
    let right = c.args.right.now in
    let size = c.sum_of-size.result in
    let first = subst (λ (both : TwoAutomata). IsSound both.first) c.self.view_is c.next.ensures.sound in
    let second = subst (λ (both : TwoAutomata). IsSound both.second) c.self.view_is c.next-2.ensures.sound in
    let sums : sum_at old c.as_slice-firsts.result.now c.as_slice-seconds.result.now ≡ sum_at old left.args right.args =
    ap (λ (xs : List ℕ). sum_at old xs c.as_slice-seconds.result.now) c.as_slice-firsts.ensures ∙ ap (λ (ys : List ℕ). sum_at old left.args ys) c.as_slice-seconds.ensures in
    let target = targets_in both old c.requires.has first second left right (at_contains both.first.trans c.args.place left c.requires.at_left) (at_contains both.second.trans c.args.other right c.requires.at_right) in
    let made = made_of size c.args.place c.args.other in
    let lowers : Lowers both old new = may_lower both old new (left.to, right.to) made c.lower.ensures.table target c.requires.made
    (λ less. two_made both old c.requires.has first second c.lower.ensures.table left right c.args.place c.args.other size c.requires.at_left c.requires.at_right c.if-left-right.false count
    (λ l. let e = c.sum_of-size.ensures.small l in omega (arith, e, sums)) less)
    c.lower.ensures.may in
    let reach = may_reach both old new (left.to, right.to) made c.lower.ensures.table target c.lower.ensures.may in
    followed_now both old new lowers (zip left.args right.args) (left.to, right.to) 1
    (⊎_elim (λ l. let e = c.sum_of-size.ensures.small l in omega (arith, reach, e, sums)) (λ h. let e = c.sum_of-size.ensures.large h in omega (arith, reach, e, sums, c.sum_of-size.ensures.capped)) (cases_lt size 1025))

use Rattle.std.proofs.Common.{ℕ, sym, subst, arith}
use Rattle.ta_core.specs.TreeAutomaton.{IsSound}
use Rattle.ta_clean.specs.Products.{TwoAutomata}
use Rattle.ta_clean.specs.Sizes.{AreMade, HasSizes}
use Rattle.ta_clean.proofs.least.Sizing.{unmade_is_made}
use Rattle.ta_clean.proofs.least.Waiting.{AreFollowed, has_lowered, has_taken, made_taken, pair_taken, work_taken, followed_starts, followed_more, followed_ends}
use Rattle.ta_clean.proofs.meeting.product.Product.settle.Goals as goal

pub lower_constants-requires-clause-has : goal.lower_constants-requires-clause-has
lower_constants-requires-clause-has c = record { first = omega (arith, c.requires.unmade.height_is); second = omega (arith, c.requires.unmade.width_is) }

pub lower_constants-requires-clause-made : goal.lower_constants-requires-clause-made
lower_constants-requires-clause-made c = let both = c.args.self.now in unmade_is_made both both.first.next both.second.next c.args.sizes.now c.requires.unmade

pub loop-first-init : goal.loop-first-init
loop-first-init c =
    let both = c.args.self.now in
    let old = c.args.sizes.now in
    let now = c.lower_constants.new.sizes in
    record {
      has = has_lowered both old now (record { first = omega (arith, c.requires.unmade.height_is); second = omega (arith, c.requires.unmade.width_is) }) c.lower_constants.ensures.lowers;
      made = c.lower_constants.ensures.lowers.made;
      followed = followed_starts both both.first.next both.second.next old now c.requires.unmade c.lower_constants.ensures.lowers c.lower_constants.ensures.followed;
    }

pub lower_by_epsilons-requires-clause-has : goal.lower_by_epsilons-requires-clause-has
lower_by_epsilons-requires-clause-has c = has_taken c.args.self.now c.loop-first.sizes c.take.new.self (c.in-Some.first, c.in-Some.second) c.in-Some.ensures.some c.in-Some.ensures.table c.loop-first.invariant.has

pub lower_by_epsilons-requires-clause-made : goal.lower_by_epsilons-requires-clause-made
lower_by_epsilons-requires-clause-made c = made_taken c.args.self.now c.loop-first.sizes c.take.new.self (c.in-Some.first, c.in-Some.second) c.in-Some.ensures.some c.in-Some.ensures.table c.loop-first.invariant.made

pub lower_by_epsilons-requires-clause-within : goal.lower_by_epsilons-requires-clause-within
lower_by_epsilons-requires-clause-within c = pair_taken c.args.self.now c.loop-first.sizes c.take.new.self (c.in-Some.first, c.in-Some.second) c.in-Some.ensures.some c.in-Some.ensures.table

pub lower_by_transitions-requires-clause-has : goal.lower_by_transitions-requires-clause-has
lower_by_transitions-requires-clause-has c =
    has_lowered c.args.self.now c.take.new.self c.lower_by_epsilons.new.sizes
    (has_taken c.args.self.now c.loop-first.sizes c.take.new.self (c.in-Some.first, c.in-Some.second) c.in-Some.ensures.some c.in-Some.ensures.table c.loop-first.invariant.has)
    c.lower_by_epsilons.ensures.lowers

pub lower_by_transitions-requires-clause-made : goal.lower_by_transitions-requires-clause-made
lower_by_transitions-requires-clause-made c = c.lower_by_epsilons.ensures.lowers.made

pub loop-first-preserved : goal.loop-first-preserved
loop-first-preserved c =
    let both = c.args.self.now in
    let s = c.loop-first.sizes in
    let t = c.take.new.self in
    let u = c.lower_by_epsilons.new.sizes in
    let v = c.lower_by_transitions.new.sizes in
    let pair : ℕ × ℕ = (c.in-Some.first, c.in-Some.second) in
    let stops = c.in-Some.ensures.some in
    let ok = c.in-Some.ensures.table in
    let has = has_taken both s t pair stops ok c.loop-first.invariant.has in
    let first = subst (λ (both : TwoAutomata). IsSound both.first) c.self.view_is c.next.ensures.sound in
    let second = subst (λ (both : TwoAutomata). IsSound both.second) c.self.view_is c.next-2.ensures.sound in
    record {
      has = has_lowered both u v (has_lowered both t u has c.lower_by_epsilons.ensures.lowers) c.lower_by_transitions.ensures.lowers;
      made = c.lower_by_transitions.ensures.lowers.made;
      followed = followed_more both s t u v pair first second c.loop-first.invariant.has ok stops c.lower_by_epsilons.ensures.lowers c.lower_by_transitions.ensures.lowers c.loop-first.invariant.followed c.lower_by_epsilons.ensures.first c.lower_by_epsilons.ensures.second
          c.lower_by_transitions.ensures.followed;
    }

pub loop-first-smaller : goal.loop-first-smaller
loop-first-smaller c =
    let less = work_taken c.args.self.now c.loop-first.sizes c.take.new.self (c.in-Some.first, c.in-Some.second) c.in-Some.ensures.some c.in-Some.ensures.table in
    omega (arith, less, c.lower_by_epsilons.ensures.lowers.work, c.lower_by_transitions.ensures.lowers.work)

pub returns-clause-has : goal.returns-clause-has
returns-clause-has c = subst (HasSizes c.args.self.now) (sym c.in_default.ensures.same) c.loop-first.invariant.has

pub returns-clause-made : goal.returns-clause-made
returns-clause-made c = subst (AreMade c.args.self.now) (sym c.in_default.ensures.same) c.loop-first.invariant.made

pub returns-clause-settled : goal.returns-clause-settled
returns-clause-settled c = followed_ends c.args.self.now c.take.new.self (subst (AreFollowed c.args.self.now) (sym c.in_default.ensures.same) c.loop-first.invariant.followed) c.in_default.ensures.none

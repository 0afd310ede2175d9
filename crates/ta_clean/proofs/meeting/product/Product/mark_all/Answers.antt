use Rattle.std.proofs.Common.{sym, subst, ◌∙◌, arith}
use Rattle.ta_clean.proofs.marking.CommonTerms.{has_table, following_starts, following_more, following_ends, meets_taken, table_taken, pair_taken, keeps_itself, IsFollowing}
use Rattle.ta_clean.proofs.meeting.product.Product.mark_all.Goals as goal

pub mark_constants-requires-clause-meets : goal.mark_constants-requires-clause-meets
mark_constants-requires-clause-meets c = λ p m. absurd (c.requires.none p m)

pub loop-first-init : goal.loop-first-init
loop-first-init c = record {
  following = following_starts c.args.self.now c.args.grid.now c.mark_constants.new.grid c.requires.none c.requires.table c.mark_constants.ensures.kept c.mark_constants.ensures.meets
      (λ next left right e. c.mark_constants.ensures.marked next (record { left = left; right = right; enters = e }));
  height = c.mark_constants.ensures.kept.height;
  width = c.mark_constants.ensures.kept.width;
}

pub follow_epsilons-requires-clause-table : goal.follow_epsilons-requires-clause-table
follow_epsilons-requires-clause-table c = table_taken c.args.self.now c.loop-first.grid c.take.new.self c.take.new.self c.take.new.self (c.in-Some.first, c.in-Some.second) c.loop-first.invariant.following c.in-Some.ensures.some (keeps_itself _) (keeps_itself _)

pub follow_epsilons-requires-clause-meets : goal.follow_epsilons-requires-clause-meets
follow_epsilons-requires-clause-meets c = meets_taken c.args.self.now c.loop-first.grid c.take.new.self c.take.new.self c.take.new.self (c.in-Some.first, c.in-Some.second) c.loop-first.invariant.following c.in-Some.ensures.some (keeps_itself _) (keeps_itself _)

pub follow_epsilons-requires-clause-marked : goal.follow_epsilons-requires-clause-marked
follow_epsilons-requires-clause-marked c = pair_taken c.args.self.now c.loop-first.grid c.take.new.self c.take.new.self c.take.new.self (c.in-Some.first, c.in-Some.second) c.loop-first.invariant.following c.in-Some.ensures.some (keeps_itself _) (keeps_itself _)

pub follow_transitions-requires-clause-table : goal.follow_transitions-requires-clause-table
follow_transitions-requires-clause-table c = has_table c.args.self.now c.take.new.self c.follow_epsilons.new.grid
    (table_taken c.args.self.now c.loop-first.grid c.take.new.self c.take.new.self c.take.new.self (c.in-Some.first, c.in-Some.second) c.loop-first.invariant.following c.in-Some.ensures.some (keeps_itself _) (keeps_itself _))
    c.follow_epsilons.ensures.kept

pub loop-first-preserved : goal.loop-first-preserved
loop-first-preserved c = record {
  following = following_more c.args.self.now c.loop-first.grid c.take.new.self c.follow_epsilons.new.grid c.follow_transitions.new.grid (c.in-Some.first, c.in-Some.second) c.loop-first.invariant.following c.in-Some.ensures.some
      c.follow_epsilons.ensures.kept c.follow_transitions.ensures.kept c.follow_transitions.ensures.meets c.follow_epsilons.ensures.marked c.follow_transitions.ensures.marked;
  height = c.follow_transitions.ensures.kept.height ∙ c.follow_epsilons.ensures.kept.height ∙ c.in-Some.ensures.some.height ∙ c.loop-first.invariant.height;
  width = c.follow_transitions.ensures.kept.width ∙ c.follow_epsilons.ensures.kept.width ∙ c.in-Some.ensures.some.width ∙ c.loop-first.invariant.width;
}

pub loop-first-smaller : goal.loop-first-smaller
loop-first-smaller c = omega (arith, c.in-Some.ensures.some.fewer, c.follow_epsilons.ensures.kept.left, c.follow_transitions.ensures.kept.left)

pub returns-clause-exact : goal.returns-clause-exact
returns-clause-exact c =
    following_ends c.args.self.now c.take.new.self
    (subst (λ t. IsFollowing c.args.self.now t) (sym c.in_default.ensures.same) c.loop-first.invariant.following) c.in_default.ensures.none

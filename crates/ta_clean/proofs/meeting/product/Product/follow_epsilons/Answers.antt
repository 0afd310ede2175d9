use Rattle.ta_clean.proofs.marking.CommonTerms.{has_table, keeps_on, steps_marked}
use Rattle.ta_clean.proofs.meeting.product.Product.follow_epsilons.Goals as goal

pub follow_seconds-requires-clause-table : goal.follow_seconds-requires-clause-table
follow_seconds-requires-clause-table c = has_table c.args.self.now c.args.grid.now c.follow_firsts.new.grid c.requires.table c.follow_firsts.ensures.kept

pub follow_seconds-requires-clause-marked : goal.follow_seconds-requires-clause-marked
follow_seconds-requires-clause-marked c = c.follow_firsts.ensures.kept.marked (c.args.first, c.args.second) c.requires.marked

pub returns-clause-kept : goal.returns-clause-kept
returns-clause-kept c = keeps_on c.args.grid.now c.follow_firsts.new.grid c.follow_seconds.new.grid c.follow_firsts.ensures.kept c.follow_seconds.ensures.kept

pub returns-clause-marked : goal.returns-clause-marked
returns-clause-marked c next s = steps_marked c.args.self.now c.follow_firsts.new.grid c.follow_seconds.new.grid c.args.first c.args.second c.follow_seconds.ensures.kept c.follow_firsts.ensures.marked c.follow_seconds.ensures.marked next s

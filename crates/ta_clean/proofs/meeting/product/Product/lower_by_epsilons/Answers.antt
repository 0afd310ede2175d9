use Rattle.std.proofs.Common.{[], ◌∷◌}
use Rattle.ta_clean.proofs.least.Waiting.{has_lowered, pair_lowered, lowers_on, followed_later}
use Rattle.ta_clean.proofs.meeting.product.Product.lower_by_epsilons.Goals as goal

pub lower_by_seconds-requires-clause-has : goal.lower_by_seconds-requires-clause-has
lower_by_seconds-requires-clause-has c = has_lowered c.args.self.now c.args.sizes.now c.lower_by_firsts.new.sizes c.requires.has c.lower_by_firsts.ensures.lowers

pub lower_by_seconds-requires-clause-made : goal.lower_by_seconds-requires-clause-made
lower_by_seconds-requires-clause-made c = c.lower_by_firsts.ensures.lowers.made

pub lower_by_seconds-requires-clause-within : goal.lower_by_seconds-requires-clause-within
lower_by_seconds-requires-clause-within c = pair_lowered c.args.self.now c.args.sizes.now c.lower_by_firsts.new.sizes (c.args.first, c.args.second) c.requires.within c.lower_by_firsts.ensures.lowers

pub returns-clause-lowers : goal.returns-clause-lowers
returns-clause-lowers c = lowers_on c.args.self.now c.args.sizes.now c.lower_by_firsts.new.sizes c.lower_by_seconds.new.sizes c.lower_by_firsts.ensures.lowers c.lower_by_seconds.ensures.lowers

pub returns-clause-first : goal.returns-clause-first
returns-clause-first c p i = followed_later c.args.self.now c.lower_by_firsts.new.sizes c.lower_by_seconds.new.sizes c.lower_by_seconds.ensures.lowers ((c.args.first, c.args.second) ∷ []) (p, c.args.second) 0 (c.lower_by_firsts.ensures.followed p i)

use Rattle.std.proofs.Common.{length}
use Rattle.reach_rows.proofs.reach.fill_rows.Goals as goal

pub sweep-requires-clause-wide : goal.sweep-requires-clause-wide
sweep-requires-clause-wide c = c.begin.ensures.wide (length c.args.spare.now) c.requires.wide

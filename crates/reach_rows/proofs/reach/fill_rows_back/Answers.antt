use Rattle.std.proofs.Common.{take, length}
use Rattle.reach_rows.proofs.Rows.{turned_below, leads_there}
use Rattle.reach_rows.proofs.reach.fill_rows_back.Goals as goal

pub fill_rows-requires-clause-below : goal.fill_rows-requires-clause-below
fill_rows-requires-clause-below c = turned_below c.args.edges.now (take (length c.args.edges.now) c.turn_all.new.turned) (length c.args.rows.now) c.turn_all.ensures.members c.requires.below

pub returns-clause-reached : goal.returns-clause-reached
returns-clause-reached c = leads_there c.args.edges.now (take (length c.args.edges.now) c.turn_all.new.turned) c.fill_rows.new.rows c.turn_all.ensures.members c.fill_rows.ensures.reached

use Rattle.std.proofs.Common.{drop, length}
use Rattle.reach_rows.proofs.Rows.{turned_members}
use Rattle.reach_rows.proofs.reach.turn_all.Goals as goal

pub returns-clause-members : goal.returns-clause-members
returns-clause-members c = turned_members c.args.edges.now c.turn.new.turned c.sort_unstable.new.self (drop (length c.args.edges.now) c.args.turned.now) c.turn.ensures c.sort_unstable.ensures.permutation c.sort_unstable.ensures.len

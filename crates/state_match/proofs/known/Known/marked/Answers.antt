use Rattle.state_match.proofs.members.MarkedSets.{members_are}
use Rattle.state_match.proofs.known.Known.marked.Goals as goal

pub returns : goal.returns
returns c q = members_are c.args.bits c.args.size q

use Rattle.std.specs.Ordering.{nat_cmp}
use Rattle.state_match.proofs.members.Members.{one_ascends}
use Rattle.state_match.proofs.join.one_state.Goals as goal

pub from_slice-requires : goal.from_slice-requires
from_slice-requires c = one_ascends nat_cmp c.args.state

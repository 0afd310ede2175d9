use Rattle.std.proofs.Common.{arith}
use Rattle.state_match.proofs.members.KeptTables.{place_within}
use Rattle.state_match.proofs.nodes.variable_node.Goals as goal

pub prove-unreachable-requires : goal.prove-unreachable-requires
prove-unreachable-requires c = omega (arith, place_within c.args.variable c.args.vars.now, c.place_of-place.ensures, c.if-prove.true)

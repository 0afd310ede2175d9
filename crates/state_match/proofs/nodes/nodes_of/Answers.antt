use Rattle.std.proofs.Common.{[], sym, subst}
use Rattle.state_match.specs.Kepts.{AreNodes}
use Rattle.state_match.proofs.members.KeptTables.{last_node}
use Rattle.state_match.proofs.nodes.nodes_of.Goals as goal

pub returns : goal.returns
returns c =
    last_node c.args.vars.now c.add_below.new.nodes.items c.push.new.self.items c.in_ok-last.last c.args.pattern.now c.in_ok-push.ensures.items
    (c.in_ok-last.ensures [] (subst (λ ns. AreNodes c.args.vars.now ns []) (sym c.new-nodes.ensures.items) tt))

use Rattle.std.proofs.Common.{All, sym, subst}
use Rattle.ta_core.specs.TreeAutomaton.{IsEpsOf}
use Rattle.ta_core.proofs.Grown.{eps_added}
use Rattle.ta_core.proofs.growing.add_eps_of.Goals as goal

pub add_all_eps-requires : goal.add_all_eps-requires
add_all_eps-requires c = subst (All (IsEpsOf c.args.grown.now.states)) (sym c.in_ok-more.ensures) c.requires

pub returns : goal.returns
returns c =
    let e = c.add_all_eps.ensures in
    eps_added c.add_all_eps.result c.args.grown.now c.add_all_eps.new.self c.in_ok-more.more c.args.set.keys c.in_ok-more.ensures e.members e.sorted e.rest

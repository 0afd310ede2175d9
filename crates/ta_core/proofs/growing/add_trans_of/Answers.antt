use Rattle.std.proofs.Common.{All, sym, subst}
use Rattle.ta_core.specs.TreeAutomaton.{IsTransOf}
use Rattle.ta_core.proofs.Grown.{trans_added}
use Rattle.ta_core.proofs.growing.add_trans_of.Goals as goal

pub add_all_trans-requires : goal.add_all_trans-requires
add_all_trans-requires c = subst (All (IsTransOf c.args.grown.now.states)) (sym c.in_ok-more.ensures) c.requires

pub returns : goal.returns
returns c =
    let e = c.add_all_trans.ensures in
    trans_added c.add_all_trans.result c.args.grown.now c.add_all_trans.new.self c.in_ok-more.more c.args.set.keys c.in_ok-more.ensures e.members e.sorted e.rest

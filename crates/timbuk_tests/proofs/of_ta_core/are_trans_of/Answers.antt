use Rattle.std.proofs.Common.{subst}
use Rattle.std.specs.List.{All}
use Rattle.std.proofs.lemmas.List.{take_all}
use Rattle.std.proofs.lemmas.List.Elements.{All-more}
use Rattle.ta_core.specs.TreeAutomaton.{IsTransOf}
use Rattle.timbuk_tests.proofs.of_ta_core.are_trans_of.Goals as goal

pub loop-t-preserved : goal.loop-t-preserved
loop-t-preserved c =
    All-more (IsTransOf c.args.states.now) c.args.all.now c.loop-t.t-index c.t-item.result c.loop-t-test.true c.loop-t.invariant (rw (← c.t-item.is) (c.is_trans_of.ensures c.if-not-is_trans_of.false))

pub returns : goal.returns
returns c t = subst (All (IsTransOf c.args.states.now)) (take_all c.loop-t.t-index c.args.all.now c.loop-t-test.false) c.loop-t.invariant

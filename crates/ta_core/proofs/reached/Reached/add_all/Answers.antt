use Rattle.std.proofs.Common.{subst}
use Rattle.std.proofs.lemmas.List.{take_all}
use Rattle.list_laws.proofs.Growing.{HasAll, has_none, has_one_more}
use Rattle.ta_core.proofs.reached.Reached.add_all.Goals as goal

pub loop-state-init : goal.loop-state-init
loop-state-init c = has_none c.args.self.now

pub loop-state-preserved : goal.loop-state-preserved
loop-state-preserved c = has_one_more c.args.self.now c.args.states.now c.loop-state.state-index 0 c.loop-state.self c.add.new.self c.loop-state-test.true c.loop-state.invariant c.in_ok-add.ensures.ok

pub returns : goal.returns
returns c = subst (λ xs. HasAll c.args.self.now xs c.loop-state.self) (take_all c.loop-state.state-index c.args.states.now c.loop-state-test.false) c.loop-state.invariant

use Rattle.std.proofs.Common.{subst}
use Rattle.std.proofs.lemmas.List.{take_all}
use Rattle.list_laws.proofs.Growing.{HasTargets, one_more_target, keeps_more}
use Rattle.ta_core.proofs.reached.Reached.add_targets.Goals as goal

pub loop-to-preserved : goal.loop-to-preserved
loop-to-preserved c = record {
  members = one_more_target c.args.self.now c.args.eps.now c.loop-to.to-index (0, 0) c.loop-to.self c.add.new.self c.loop-to-test.true c.loop-to.invariant.members c.in_ok-add.ensures.ok;
  kept = keeps_more c.args.self.now c.loop-to.self c.add.new.self _ c.loop-to.invariant.kept c.in_ok-add.ensures.ok;
}

pub returns-clause-members : goal.returns-clause-members
returns-clause-members c = subst (λ eps. HasTargets c.args.self.now eps c.loop-to.self) (take_all c.loop-to.to-index c.args.eps.now c.loop-to-test.false) c.loop-to.invariant.members

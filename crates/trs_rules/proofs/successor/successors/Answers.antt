use Rattle.std.proofs.Common.{[], sym, subst}
use Rattle.trs_rules.specs.Derivations.{AreStepsUpTo}
use Rattle.trs_rules.proofs.steps.SuccessorLaws.{at_none, next_rule, all_rules}
use Rattle.trs_rules.proofs.successor.successors.Goals as goal

pub loop-i-init : goal.loop-i-init
loop-i-init c = subst (AreStepsUpTo c.args.rules.now c.args.t.now 0 []) (sym c.new-found.ensures) (at_none c.args.rules.now c.args.t.now)

pub loop-i-preserved : goal.loop-i-preserved
loop-i-preserved c =
    let R = c.args.rules.now in let t = c.args.t.now in let i = c.loop-i.i in
    next_rule R t c.in_ok-positions.positions c.in_ok-positions.ensures.each i c.add_steps.new.found
    (subst (λ ps. AreStepsUpTo R t i ps c.add_steps.new.found) c.as_slice.ensures c.in_ok-add_steps.ensures)

pub returns : goal.returns
returns c = all_rules c.args.rules.now c.args.t.now c.in_ok-positions.positions c.in_ok-positions.ensures.each c.loop-i.i c.loop-i.found c.loop-i-test.false c.loop-i.invariant

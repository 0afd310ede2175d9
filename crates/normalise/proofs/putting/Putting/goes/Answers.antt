use Rattle.std.proofs.Common.{◌≤◌, ap, subst, arith}
use Rattle.normalise.specs.Normalising.{IsSent}
use Rattle.normalise.specs.AtWork.{Job}
use Rattle.normalise.proofs.PutSteps.{sent_stands, entry_goes, reuse_goes, reuse_stands, fresh_goes, fresh_needs, fresh_args, fresh_stands, trans_states}
use Rattle.normalise.proofs.putting.Putting.goes.Goals as goal

pub add_trans-requires-clause-to : goal.add_trans-requires-clause-to
add_trans-requires-clause-to c =
    sent_stands c.args.self.now.task c.args.growing.now c.args.sym c.args.states.now c.in_ok-to.field-0 c.in-Some.to c.requires.targets (subst (λ (j : Job). IsSent j.task c.args.sym c.args.states.now c.in_ok-to.field-0) c.self.view_is c.in_ok-to.ensures) c.in-Some.is

pub returns-in-Some-clause-ok : goal.returns-in-Some-clause-ok
returns-in-Some-clause-ok c =
    entry_goes c.args.self.now.task c.args.growing.now c.add_trans.new.self c.args.sym c.args.states.now c.in_ok-to.field-0 c.in-Some.to (subst (λ (j : Job). IsSent j.task c.args.sym c.args.states.now c.in_ok-to.field-0) c.self.view_is c.in_ok-to.ensures) c.in-Some.is c.in_ok-add_trans.ensures.ok

pub returns-in-Some-clause-state : goal.returns-in-Some-clause-state
returns-in-Some-clause-state c =
    trans_states c.args.growing.now c.add_trans.new.self c.args.sym c.args.states.now c.in-Some.to c.in-Some.to c.in_ok-add_trans.ensures.ok
    (sent_stands c.args.self.now.task c.args.growing.now c.args.sym c.args.states.now c.in_ok-to.field-0 c.in-Some.to c.requires.targets (subst (λ (j : Job). IsSent j.task c.args.sym c.args.states.now c.in_ok-to.field-0) c.self.view_is c.in_ok-to.ensures) c.in-Some.is)

pub returns-in-Some-2-clause-ok : goal.returns-in-Some-2-clause-ok
returns-in-Some-2-clause-ok c =
    reuse_goes c.args.self.now.task c.args.growing.now c.args.sym c.args.states.now c.in_ok-to.field-0 c.in_ok-least.field-0 c.in-Some-2.least (subst (λ (j : Job). IsSent j.task c.args.sym c.args.states.now c.in_ok-to.field-0) c.self.view_is c.in_ok-to.ensures) c.in_default.is c.in_ok-least.ensures.some c.in-Some-2.is

pub returns-in-Some-2-clause-state : goal.returns-in-Some-2-clause-state
returns-in-Some-2-clause-state c = reuse_stands c.args.growing.now c.args.sym c.args.states.now c.in_ok-least.field-0 c.in-Some-2.least c.least_target.ensures.sound c.in_ok-least.ensures.some c.in-Some-2.is

pub returns-then-next-self-clause-full : goal.returns-then-next-self-clause-full
returns-then-next-self-clause-full c = λ e.
    let limit : c.args.self.now.most ≤ c.args.growing.now.next = omega (arith, c.if-next-self.true, c.next.ensures.value, ap (λ (j : Job). j.most) c.self.view_is) in
    fresh_needs c.args.self.now.task c.args.growing.now c.args.sym c.args.states.now c.in_ok-to.field-0 c.in_ok-least.field-0 c.args.self.now.most (subst (λ (j : Job). IsSent j.task c.args.sym c.args.states.now c.in_ok-to.field-0) c.self.view_is c.in_ok-to.ensures) c.in_default.is c.in_ok-least.ensures.none c.in_default-2.is limit

pub add_trans-requires-2-clause-args : goal.add_trans-requires-2-clause-args
add_trans-requires-2-clause-args c = fresh_args c.args.growing.now c.add_state-to.new.self c.args.states.now c.add_state-to.ensures.grown c.requires.args

pub add_trans-requires-2-clause-to : goal.add_trans-requires-2-clause-to
add_trans-requires-2-clause-to c = fresh_stands c.args.growing.now c.add_state-to.new.self c.add_state-to.result c.add_state-to.ensures.number c.add_state-to.ensures.grown

pub returns-clause-ok : goal.returns-clause-ok
returns-clause-ok c =
    fresh_goes c.args.self.now.task c.args.growing.now c.add_state-to.new.self c.add_trans-2.new.self c.args.sym c.args.states.now c.in_ok-to.field-0 c.in_ok-least.field-0 c.add_state-to.result
    (subst (λ (j : Job). IsSent j.task c.args.sym c.args.states.now c.in_ok-to.field-0) c.self.view_is c.in_ok-to.ensures) c.in_default.is c.in_ok-least.ensures.none c.in_default-2.is c.add_state-to.ensures.number c.add_state-to.ensures.grown c.in_ok-add_trans-2.ensures.ok

pub returns-clause-state : goal.returns-clause-state
returns-clause-state c =
    trans_states c.add_state-to.new.self c.add_trans-2.new.self c.args.sym c.args.states.now c.add_state-to.result c.add_state-to.result c.in_ok-add_trans-2.ensures.ok
    (fresh_stands c.args.growing.now c.add_state-to.new.self c.add_state-to.result c.add_state-to.ensures.number c.add_state-to.ensures.grown)

use Rattle.std.proofs.Common.{◌∙◌}
use Rattle.std.proofs.lemmas.Result.{IfOk-weaker}
use Rattle.state_match.specs.Belows.{RunsInto}
use Rattle.state_match.specs.declared.below.Below.TheViews.{out-Below}
use Rattle.state_match.proofs.members.Belows.{state_into, app_into, sets_below}
use Rattle.state_match.proofs.below.reached.Goals as goal

pub returns-in_ok-states-in-Var : goal.returns-in_ok-states-in-Var
returns-in_ok-states-in-Var c = state_into c.args.automaton.now c.states.ensures.sound c.args.pattern.now c.listed.result (c.listed.ensures ∙ (c.in_ok-states-in-Var.ensures ∙ c.states.ensures.value))

pub returns-in-App : goal.returns-in-App
returns-in-App c =
    let A = c.args.automaton.now in
    let b = c.args.below.now in
    IfOk-weaker c.applied.result _ (RunsInto A c.args.pattern.now)
    (λ set exact. app_into A c.args.pattern.now c.in-App.sym c.in-App.field-1 (out-Below b).sets.items set c.in-App.is (sets_below A c.args.pattern.now b c.requires.below c.in-App.sym c.in-App.field-1 c.in-App.is)
    (rw c.deref.ensures.value at exact)) c.applied.ensures

use Rattle.std.proofs.Common.{ap}
use Rattle.state_match.specs.Belows.{IsBelow, RunsInto}
use Rattle.state_match.specs.declared.below.Below.{Below}
use Rattle.state_match.specs.declared.below.Below.TheOpen.{Below-F}
use Rattle.state_match.specs.declared.below.Below.TheViews.{out-roll-Below}
use Rattle.state_match.proofs.members.Belows.{below_app, below_variable, zip_next}
use Rattle.state_match.proofs.below.Below.+of.Goals as goal

pub loop-arg-preserved : goal.loop-arg-preserved
loop-arg-preserved t c =
    let A = c.args.automaton.now in
    let items = c.as_slice-arg-items.result.now in
    let i = c.loop-arg.arg-index in
    let arg = c.arg-item.result in (
      zip_next (RunsInto A) items i arg c.loop-arg.sets.items c.push.new.self.items c.in_ok-listed-in-App.listed c.loop-arg-test.true c.arg-item.is c.loop-arg.invariant.0
          (λ σ q r. (c.in_ok-listed-in-App.ensures q).1 (c.in_ok-set-in-App.ensures σ q r)) c.in_ok-push-in-App.ensures.items,
      zip_next (IsBelow A) items i arg c.loop-arg.belows.items c.push-in-loop-arg.new.self.items c.in_ok-below-in-App.below c.loop-arg-test.true c.arg-item.is c.loop-arg.invariant.1
          c.in_ok-below-in-App.ensures c.in_ok-push-in-App-2.ensures.items,
    )

pub returns-in-Var : goal.returns-in-Var
returns-in-Var t c = below_variable c.args.automaton.now c.args.pattern.now _ c.in-Var.variable c.in-Var.is

pub returns-after-loop-arg : goal.returns-after-loop-arg
returns-after-loop-arg t c =
    below_app c.args.automaton.now c.args.pattern.now c.in-App.sym c.in-App.args c.as_slice-arg-items.result.now c.loop-arg.arg-index c.loop-arg.sets.items c.loop-arg.belows.items _ c.in-App.is c.as_slice-arg-items.ensures c.loop-arg-test.false
    (ap (λ (b : Below-F Below). b.sets.items) (out-roll-Below _)) (ap (λ (b : Below-F Below). b.args.items) (out-roll-Below _)) c.loop-arg.invariant

use Rattle.std.proofs.Common.{refl}
use Rattle.state_match.specs.Visits.{GoneThrough}
use Rattle.state_match.proofs.grouping.Fronts.{on_err_from}
use Rattle.state_match.proofs.grouping.EachLists.{go_on, go_rest}
use Rattle.state_match.proofs.each.EachGroups.take.Goals as goal

pub loop-state-init : goal.loop-state-init
loop-state-init g c = record { same = refl; gone = GoneThrough.none }

pub loop-state-preserved : goal.loop-state-preserved
loop-state-preserved g c = record {
  same = c.loop-state.invariant.same;
  gone = go_on g.V.Visit.took c.args.assignment.now c.args.states.now c.loop-state.state-index _ c.from_slice-sigma.ensures c.loop-state-test.true c.loop-state.invariant.gone c.in_ok-visit.ensures.ok;
}

pub returns-in_err-visit-clause-broke : goal.returns-in_err-visit-clause-broke
returns-in_err-visit-clause-broke g c =
    on_err_from c.from_residual.result (
      c.loop-state.invariant.same,
      go_rest g.V.Visit.took c.args.assignment.now c.args.states.now c.loop-state.state-index c.loop-state.invariant.gone c.in_err-visit.ensures.err,
    )

use Rattle.std.proofs.Common.{◌≡◌, map, take}
use Rattle.state_match.specs.Visits.{GoneThrough}
use Rattle.state_match.specs.Collected.{match_of}
use Rattle.state_match.proofs.each.EachGroups.take.Given as goal

abbrev pub invariant-loop-state : goal.invariant-loop-state
invariant-loop-state g l = record {
  same : l.self.visitor.ghost_name ≡ l.fn.self.visitor.ghost_name;
  gone : GoneThrough g.V.Visit.took l.fn.self.visitor.now (map (match_of l.assignment) (take l.state-index l.states)) l.self.visitor.now;
}

use Rattle.std.proofs.Common.{◌≡◌, ◌++◌, map, take}
use Rattle.eq_merge.specs.Ends.{end_of, states_at}
use Rattle.eq_merge.proofs.ends.CollectingGroups.take.Given as goal

abbrev pub invariant-loop-state : goal.invariant-loop-state
invariant-loop-state l = record {
  side : l.self.side ≡ l.fn.self.side;
  places : l.self.places ≡ l.fn.self.places;
  ends : l.self.ends ≡ l.fn.self.ends ++ map (end_of l.fn.self.side (states_at l.fn.self.places l.assignment)) (take l.state-index l.states);
}

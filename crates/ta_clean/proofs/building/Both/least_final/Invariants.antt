use Rattle.std.proofs.Common.{◌≤◌, ◌<◌, ℕ, get_or, Contains}
use Rattle.ta_clean.specs.Sizes.{size_at}
use Rattle.ta_clean.proofs.building.Both.least_final.Given as goal

abbrev pub invariant-loop-state : goal.invariant-loop-state
invariant-loop-state l = record {
  first : Contains l.self.first.finals l.least.0;
  second : Contains l.self.second.finals l.least.1;
  least : (j q : ℕ) → j < l.state-index → Contains l.self.second.finals q → size_at l.sizes l.least ≤ size_at l.sizes (get_or l.state-items j 0, q);
}

use Rattle.std.proofs.Common.{◌≤◌, ◌<◌, ℕ, get_or, Contains}
use Rattle.ta_clean.specs.Sizes.{size_at}
use Rattle.ta_clean.proofs.building.Both.least_with.Given as goal

abbrev pub invariant-loop-other : goal.invariant-loop-other
invariant-loop-other l = record {
  first : Contains l.self.first.finals l.first;
  second : Contains l.self.second.finals l.second;
  falls : size_at l.sizes (l.first, l.second) ≤ size_at l.sizes l.fn.pair;
  least : (j : ℕ) → j < l.other-index → size_at l.sizes (l.first, l.second) ≤ size_at l.sizes (l.state, get_or l.other-items j 0);
}

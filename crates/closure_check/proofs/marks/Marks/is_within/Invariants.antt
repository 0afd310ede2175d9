use Rattle.std.proofs.Common.{ℕ, take, Contains}
use Rattle.closure_check.proofs.marks.Marks.is_within.Given as goal

abbrev pub invariant-loop-state : goal.invariant-loop-state
invariant-loop-state l = (q : ℕ) → Contains (take l.state-index l.list) q → Contains l.other.members q

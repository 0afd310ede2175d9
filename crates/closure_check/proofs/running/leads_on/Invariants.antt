use Rattle.std.proofs.Common.{ℕ, take, Contains}
use Rattle.closure_check.proofs.running.leads_on.Given as goal

abbrev pub invariant-loop-state : goal.invariant-loop-state
invariant-loop-state l = (p q : ℕ) → Contains (take l.state-index l.list) p → Contains l.automaton.eps (p, q) → ⊥

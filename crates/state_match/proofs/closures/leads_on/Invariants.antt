use Rattle.std.proofs.Common.{ℕ, take, Contains}
use Rattle.state_match.proofs.closures.leads_on.Given as goal

abbrev pub invariant-loop-state : goal.invariant-loop-state
invariant-loop-state l = (p q : ℕ) → Contains (take l.state-index l.state-items) p → Contains l.automaton.eps (p, q) → ⊥

use Rattle.std.proofs.Common.{◌-◌}
use Rattle.ta_core.specs.lemmas.ReachedSets.{IsClosing}
use Rattle.ta_core.proofs.reached.Reached.closed.Given as goal

abbrev pub invariant-loop-state : goal.invariant-loop-state
invariant-loop-state l = IsClosing l.automaton l.fn.self l.at l.self

abbrev pub decreases-loop-state : goal.decreases-loop-state
decreases-loop-state l = l.automaton.next - l.at

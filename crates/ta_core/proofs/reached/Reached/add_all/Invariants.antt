use Rattle.std.proofs.Common.{take}
use Rattle.list_laws.proofs.Growing.{HasAll}
use Rattle.ta_core.proofs.reached.Reached.add_all.Given as goal

abbrev pub invariant-loop-state : goal.invariant-loop-state
invariant-loop-state l = HasAll l.fn.self (take l.state-index l.states) l.self

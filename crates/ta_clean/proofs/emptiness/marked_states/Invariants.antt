use Rattle.std.proofs.Common.{take}
use Rattle.ta_clean.proofs.languages.AllTerms.{HasMarked}
use Rattle.ta_clean.proofs.emptiness.marked_states.Given as goal

abbrev pub invariant-loop-state : goal.invariant-loop-state
invariant-loop-state l = HasMarked l.meetings.table (take l.state-index l.states) l.all.items

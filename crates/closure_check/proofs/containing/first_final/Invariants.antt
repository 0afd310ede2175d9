use Rattle.std.proofs.Common.{All, take}
use Rattle.ta_core.specs.Acceptance.{FinalHolds}
use Rattle.closure_check.proofs.containing.first_final.Given as goal

abbrev pub invariant-loop-state : goal.invariant-loop-state
invariant-loop-state l = All (FinalHolds l.automaton l.images) (take l.state-index l.finals)

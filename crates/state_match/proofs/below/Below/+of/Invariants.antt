use Rattle.std.proofs.Common.{take}
use Rattle.std.specs.List.{AllZip}
use Rattle.state_match.specs.Belows.{IsBelow, RunsInto}
use Rattle.state_match.proofs.below.Below.+of.Given as goal

abbrev pub invariant-loop-arg : goal.invariant-loop-arg
invariant-loop-arg l = AllZip (RunsInto l.automaton) (take l.arg-index l.arg-items) l.sets.items × AllZip (IsBelow l.automaton) (take l.arg-index l.arg-items) l.belows.items

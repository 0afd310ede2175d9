use Rattle.std.proofs.Common.{take}
use Rattle.std.specs.List.{All}
use Rattle.ta_core.specs.TreeAutomaton.{IsTransOf}
use Rattle.timbuk_tests.proofs.of_ta_core.are_trans_of.Given as goal

abbrev pub invariant-loop-t : goal.invariant-loop-t
invariant-loop-t l = All (IsTransOf l.states) (take l.t-index l.all)

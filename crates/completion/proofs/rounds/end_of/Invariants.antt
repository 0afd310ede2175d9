use Rattle.completion.specs.Standing.{Reaches}
use Rattle.completion.proofs.rounds.end_of.Given as goal

abbrev pub invariant-loop-number : goal.invariant-loop-number
invariant-loop-number l = Reaches l.fn.core.spec l.fn.options l.core l.number

use Rattle.derive_search.proofs.pairs.LowRounds.{IsRound}
use Rattle.derive_search.proofs.low_pairs.low_pairs.Given as goal

abbrev pub invariant-loop-round : goal.invariant-loop-round
invariant-loop-round l = IsRound l.automaton l.limit l.fn.store l.round l.store l.pairs.keys l.first

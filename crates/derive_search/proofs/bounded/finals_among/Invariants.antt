use Rattle.std.proofs.Common.{take}
use Rattle.derive_search.specs.LowPairs.{AreFinal}
use Rattle.derive_search.proofs.bounded.finals_among.Given as goal

abbrev pub invariant-loop-k : goal.invariant-loop-k
invariant-loop-k l = AreFinal l.automaton.finals (take l.k l.pairs.keys) l.ids

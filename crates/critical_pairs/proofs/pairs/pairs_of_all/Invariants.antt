use Rattle.critical_pairs.proofs.Triples.{AreOpenBefore}
use Rattle.critical_pairs.proofs.pairs.pairs_of_all.Given as goal

-- the open pairs of the rules before the number
abbrev pub invariant-loop-number : goal.invariant-loop-number
invariant-loop-number l = AreOpenBefore l.matcher l.rules l.limit l.number l.pairs

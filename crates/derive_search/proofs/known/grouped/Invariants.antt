use Rattle.std.proofs.Common.{◌≡◌, length}
use Rattle.derive_search.specs.LowPairs.{IsGrouped, IsSplit}
use Rattle.derive_search.proofs.known.grouped.Given as goal

abbrev pub invariant-loop-k : goal.invariant-loop-k
invariant-loop-k l = IsGrouped l.pairs.keys l.first l.k l.known.items × (length l.known.items ≡ l.next) × IsSplit l.first l.k l.known.items

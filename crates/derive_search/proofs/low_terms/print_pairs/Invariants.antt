use Rattle.std.proofs.Common.{take}
use Rattle.derive_search.specs.TextOrder.{ArePrinted}
use Rattle.derive_search.proofs.low_terms.print_pairs.Given as goal

abbrev pub invariant-loop-k : goal.invariant-loop-k
invariant-loop-k l = ArePrinted l.sig l.store (take l.k l.pairs.keys) l.all.items

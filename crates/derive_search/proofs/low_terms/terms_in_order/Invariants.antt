use Rattle.std.proofs.Common.{◌≡◌, map, take}
use Rattle.derive_search.specs.TextOrder.{named}
use Rattle.derive_search.proofs.low_terms.terms_in_order.Given as goal

abbrev pub invariant-loop-entry : goal.invariant-loop-entry
invariant-loop-entry l = l.list ≡ map (named l.store) (take l.entry-index l.printed)

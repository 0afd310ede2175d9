use Rattle.std.proofs.Common.{◌≡◌, length}
use Rattle.derive_search.specs.StateSets.{AreStateSets}
use Rattle.derive_search.proofs.state_sets.fill.Given as goal

abbrev pub invariant-loop-id : goal.invariant-loop-id
invariant-loop-id l = AreStateSets l.automaton l.store l.sets.items × (length l.sets.items ≡ l.id)

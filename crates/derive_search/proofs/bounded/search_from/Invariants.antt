use Rattle.derive_search.specs.Growing.{IsLevel}
use Rattle.derive_search.specs.StateSets.{AreStateSets}
use Rattle.derive_search.proofs.bounded.search_from.Given as goal

abbrev pub invariant-loop-step : goal.invariant-loop-step
invariant-loop-step l = IsLevel l.spec l.options l.step l.store l.levels.ids.keys l.levels.origins.items l.first × AreStateSets l.spec.forbidden l.store l.sets.items

use Rattle.std.proofs.Common.{◌≤◌, length}
use Rattle.term_store.specs.Store.{Keeps}
use Rattle.derive_search.specs.Growing.{terms_in, AreGrown, AreClosed}
use Rattle.derive_search.proofs.growth.grow.Given as goal

abbrev pub invariant-loop-place : goal.invariant-loop-place
invariant-loop-place l = Keeps l.fn.store l.store
    × (AreGrown l.rules (terms_in l.fn.store l.fn.levels.ids.keys) l.first l.store l.fn.levels.ids.keys l.fn.levels.origins.items l.levels.ids.keys l.levels.origins.items
    × (AreClosed l.rules (terms_in l.fn.store l.fn.levels.ids.keys) l.first l.place (terms_in l.store l.levels.ids.keys)
    × (length l.levels.ids.keys ≤ l.limit)))

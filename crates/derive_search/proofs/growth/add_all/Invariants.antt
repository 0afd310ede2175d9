use Rattle.std.proofs.Common.{◌≡◌, ◌≤◌, ◌++◌, List, length}
use Rattle.std.specs.List.{Contains}
use Rattle.derive_search.specs.Growing.{AreAdded}
use Rattle.term_store.specs.declared.found.Found.{Found}
use Rattle.derive_search.proofs.growth.add_all.Given as goal

-- the steps that are done, from the end, and those that are left
abbrev pub invariant-loop-found : goal.invariant-loop-found
invariant-loop-found l = AreAdded l.parent l.fn.founds l.fn.levels.ids.keys l.fn.levels.origins.items l.levels.ids.keys l.levels.origins.items
    × ((length l.levels.ids.keys ≤ l.limit) × ((done : List Found) × (l.fn.founds ≡ l.rest.items ++ done) × ((f : Found) → Contains done f → Contains l.levels.ids.keys f.term)))

abbrev pub decreases-loop-found : goal.decreases-loop-found
decreases-loop-found l = length l.rest.items

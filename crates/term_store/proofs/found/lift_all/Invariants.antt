use Rattle.std.proofs.Common.{◌≡◌, ◌++◌, List, length}
use Rattle.term_store.specs.Store.{Keeps}
use Rattle.term_store.specs.Found.{AreLifted}
use Rattle.term_store.specs.declared.found.Found.{Found}
use Rattle.term_store.proofs.found.lift_all.Given as goal

-- the steps that are done, from the end, and those that are left
abbrev pub invariant-loop-step : goal.invariant-loop-step
invariant-loop-step l = Keeps l.fn.store l.store × ((done : List Found) × (l.fn.below ≡ l.rest.items ++ done) × AreLifted l.sym l.args l.place l.fn.store l.store done l.fn.founds l.founds)

abbrev pub decreases-loop-step : goal.decreases-loop-step
decreases-loop-step l = length l.rest.items

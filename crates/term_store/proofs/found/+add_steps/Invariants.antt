use Rattle.term_store.specs.Store.{term_at, Keeps}
use Rattle.term_store.specs.Found.{AreFoundUpTo}
use Rattle.term_store.proofs.found.+add_steps.Given as goal

abbrev pub decreases-add_steps : goal.decreases-add_steps
decreases-add_steps l = l.id

abbrev pub invariant-loop-place : goal.invariant-loop-place
invariant-loop-place l = Keeps l.fn.store l.store × AreFoundUpTo l.rules (term_at l.fn.store l.id) l.store l.place l.founds

use Rattle.std.proofs.Common.{◌≡◌, map, take}
use Rattle.term_store.specs.Store.{term_at}
use Rattle.term_store.proofs.store.Store.+term.Given as goal

abbrev pub decreases-term : goal.decreases-term
decreases-term l = l.id

abbrev pub invariant-loop-arg : goal.invariant-loop-arg
invariant-loop-arg l = l.args ≡ map (term_at l.self) (take l.arg-index l.arg-items)

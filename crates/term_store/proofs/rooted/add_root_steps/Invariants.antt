use Rattle.std.proofs.Common.{take}
use Rattle.term_store.specs.Store.{term_at, Keeps}
use Rattle.term_store.specs.Rooted.{AreFoundBy}
use Rattle.term_store.proofs.rooted.add_root_steps.Given as goal

abbrev pub invariant-loop-k : goal.invariant-loop-k
invariant-loop-k l = Keeps l.fn.store l.store × AreFoundBy l.rules (term_at l.fn.store l.id) l.store (take l.k l.entries) l.founds

use Rattle.std.proofs.Common.{not, sym, ap}
use Rattle.list_laws.proofs.Places.{searchable, insert_at_gap, absent_at_gap, present_at, unchanged_at, sorted_insert_key}
use Rattle.ta_core.proofs.sorted.Sorted.insert.Goals as goal

pub returns-in-Ok-clause-new : goal.returns-in-Ok-clause-new
returns-in-Ok-clause-new g c =
    rw (← c.self.view_is, ← c.deref.ensures.value)
    (ap not (sym (present_at g.met.T.Ord.total c.deref.result.now c.in-Ok.field-0 c.args.item c.in-Ok.ensures.bound c.in-Ok.ensures.ok)))

pub returns-in-Ok-clause-ok : goal.returns-in-Ok-clause-ok
returns-in-Ok-clause-ok g c =
    rw (← c.self.view_is, ← c.deref.ensures.value)
    (sym (unchanged_at g.met.T.Ord.total c.deref.result.now c.in-Ok.field-0 c.args.item (rw c.deref.ensures.value c.self.invariant) c.in-Ok.ensures.bound c.in-Ok.ensures.ok))

pub returns-in_ok-insert-in-Err-clause-new : goal.returns-in_ok-insert-in-Err-clause-new
returns-in_ok-insert-in-Err-clause-new g c =
    let parts = c.in-Err.ensures.position (searchable g.met.T.Ord.total c.deref.result.now c.args.item (rw c.deref.ensures.value c.self.invariant)) in
    rw (← c.self.view_is, ← c.deref.ensures.value)
    (ap not (sym (absent_at_gap g.met.T.Ord.total c.deref.result.now c.in-Err.at c.args.item parts.0 parts.1)))

pub returns-in_ok-insert-in-Err-clause-ok : goal.returns-in_ok-insert-in-Err-clause-ok
returns-in_ok-insert-in-Err-clause-ok g c =
    let parts = c.in-Err.ensures.position (searchable g.met.T.Ord.total c.deref.result.now c.args.item (rw c.deref.ensures.value c.self.invariant)) in
    rw (c.in_ok-insert-in-Err.ensures.items, ← c.self.view_is, ← c.deref.ensures.value)
    (sym (insert_at_gap g.met.T.Ord.total c.deref.result.now c.in-Err.at c.args.item c.in-Err.ensures.bound parts.0 parts.1))

pub invariant_of-self-in-Err : goal.invariant_of-self-in-Err
invariant_of-self-in-Err g c =
    rw (returns-in_ok-insert-in-Err-clause-ok g c, ← c.self.view_is) (sorted_insert_key g.met.T.Ord.total c.self.inside.items.items c.args.item c.self.invariant)

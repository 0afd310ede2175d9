use Rattle.std.proofs.Common.{◌≡◌, drop}
use Rattle.term_store.specs.Rooted.{id_of}
use Rattle.term_store.proofs.rooted.bound_to.Given as goal

abbrev pub invariant-loop-entry : goal.invariant-loop-entry
invariant-loop-entry l = id_of (drop l.entry-index l.binding) l.variable ≡ id_of l.binding l.variable

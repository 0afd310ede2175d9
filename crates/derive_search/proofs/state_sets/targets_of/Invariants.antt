use Rattle.std.proofs.Common.{ℕ, ◌↔◌, take}
use Rattle.std.specs.List.{Contains}
use Rattle.ta_core.specs.Reached.{HasTransInto}
use Rattle.derive_search.specs.StateSets.{sets_at}
use Rattle.derive_search.proofs.state_sets.targets_of.Given as goal

abbrev pub invariant-loop-t : goal.invariant-loop-t
invariant-loop-t l = (q : ℕ) → Contains l.targets.items q ↔ HasTransInto (take l.t-index l.t-items) l.sym (sets_at l.sets l.args) q

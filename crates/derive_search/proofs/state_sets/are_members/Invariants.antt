use Rattle.std.proofs.Common.{ℕ, [], ◌<◌, get_or}
use Rattle.std.specs.List.{Contains}
use Rattle.derive_search.proofs.state_sets.are_members.Given as goal

abbrev pub invariant-loop-i : goal.invariant-loop-i
invariant-loop-i l = (k : ℕ) → k < l.i → Contains (get_or l.sets (get_or l.args k 0) []) (get_or l.states k 0)

use Rattle.std.proofs.Common.{ℕ, ◌≡◌, ◌<◌, length, map, take, drop, All}
use Rattle.std.specs.List.{Contains}
use Rattle.ranked_terms.specs.Terms.{occurrences, joined}
use Rattle.ranked_terms.specs.Matching.{bound_in}
use Rattle.term_store.specs.Store.{term_at, Keeps}
use Rattle.term_store.specs.Rooted.{named, instance_by}
use Rattle.term_store.proofs.rooted.+build_ids.Given as goal

abbrev pub decreases-build_ids : goal.decreases-build_ids
decreases-build_ids l = goal.size-build_ids l

abbrev pub invariant-loop-arg : goal.invariant-loop-arg
invariant-loop-arg l = Keeps l.fn.store l.store × (All (λ a. a < length l.store) l.ids.items
    × ((map (term_at l.store) l.ids.items ≡ map (instance_by l.fn.store l.binding) (take l.arg-index l.arg-items))
    × ((v : ℕ) → Contains (joined (map occurrences (drop l.arg-index l.arg-items))) v → Contains (bound_in (named l.fn.store l.binding)) v)))

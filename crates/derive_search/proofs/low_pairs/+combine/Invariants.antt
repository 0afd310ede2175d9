use Rattle.std.proofs.Common.{ℕ, ◌≡◌, ◌≤◌, ◌<◌, ◌-◌, ◌||◌, ◌++◌, ◌∷◌, [], false, drop, length, get_or}
use Rattle.std.specs.List.{Contains}
use Rattle.ranked_terms.specs.declared.term.Term.{Term}
use Rattle.derive_search.specs.LowPairs.{Grows, IsChosen, named_pairs}
use Rattle.derive_search.proofs.low_pairs.+combine.Given as goal

abbrev pub decreases-combine : goal.decreases-combine
decreases-combine l = length l.t.now.args - length l.chosen.now.items

abbrev pub invariant-loop-k : goal.invariant-loop-k
invariant-loop-k l = (l.chosen.items ≡ l.fn.chosen.items)
    × Grows l.fn.store l.store l.fn.pairs.keys l.pairs.keys (IsChosen l.fn.store l.t.sym l.fn.chosen.items l.known l.fresh (drop (length l.fn.chosen.items) l.t.args) l.states)
    × ((pair : ℕ × Term) (k : ℕ) → k < l.k → IsChosen l.fn.store l.t.sym (l.fn.chosen.items ++ (get_or l.candidates k (0, false)).0 ∷ []) l.known (l.fresh || (get_or l.candidates k (0, false)).1) (drop (length (l.fn.chosen.items ++ (get_or l.candidates k (0, false)).0 ∷ [])) l.t.args) l.states pair → Contains (named_pairs l.store l.pairs.keys) pair)
    × (length l.pairs.keys ≤ l.limit)

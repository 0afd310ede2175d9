use Rattle.std.proofs.Common.{ℕ, ◌≡◌, ◌≤◌, length, take}
use Rattle.std.specs.List.{Contains}
use Rattle.ranked_terms.specs.declared.term.Term.{Term}
use Rattle.term_store.specs.Store.{term_at}
use Rattle.derive_search.specs.LowPairs.{Grows}
use Rattle.derive_search.proofs.low_pairs.add_states.Given as goal

abbrev pub invariant-loop-state : goal.invariant-loop-state
invariant-loop-state l = Grows l.store l.store l.fn.pairs.keys l.pairs.keys (λ (pair : ℕ × Term). Contains l.states pair.0 × (pair.1 ≡ term_at l.store l.id))
    × (((q : ℕ) → Contains (take l.state-index l.states) q → Contains l.pairs.keys (q, l.id)) × (length l.pairs.keys ≤ l.limit))

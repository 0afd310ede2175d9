use Rattle.std.proofs.Common.{ℕ, ◌≤◌, length, take}
use Rattle.std.specs.List.{Contains}
use Rattle.ranked_terms.specs.declared.term.Term.{Term}
use Rattle.ta_core.specs.declared.trans.Trans.{Trans}
use Rattle.derive_search.specs.Made.{IsMade}
use Rattle.derive_search.specs.LowPairs.{Grows, IsMadeBy, named_pairs}
use Rattle.derive_search.proofs.low_pairs.add_next.Given as goal

abbrev pub invariant-loop-t : goal.invariant-loop-t
invariant-loop-t l = Grows l.fn.store l.store l.fn.pairs.keys l.pairs.keys (IsMade l.automaton (named_pairs l.fn.store l.fn.pairs.keys))
    × ((pair : ℕ × Term) (u : Trans) → Contains (take l.t-index l.t-items) u → IsMadeBy l.automaton l.fn.store l.known.items l.is_first_round u pair → Contains (named_pairs l.store l.pairs.keys) pair)
    × (length l.pairs.keys ≤ l.limit)

use Rattle.std.proofs.Common.{◌≡◌, [], ◌∷◌, ◌++◌, map, take}
use Rattle.ranked_terms.specs.Positions.{positions_below, positions_of}
use Rattle.ranked_terms.proofs.positions.+add_positions.Given as goal

abbrev pub invariant-loop-i : goal.invariant-loop-i
invariant-loop-i l = record {
  path : l.path.items ≡ l.fn.path.items;
  found : l.found ≡ l.fn.found ++ map (λ p. l.fn.path.items ++ p) ([] ∷ positions_below 1 (map positions_of (take l.i l.args)));
}

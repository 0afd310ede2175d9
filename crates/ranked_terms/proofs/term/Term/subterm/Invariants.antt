use Rattle.std.proofs.Common.{◌↔◌, drop}
use Rattle.ranked_terms.specs.declared.term.Term.{Term}
use Rattle.ranked_terms.specs.Positions.{SubtermAt}
use Rattle.ranked_terms.proofs.term.Term.subterm.Given as goal

abbrev pub invariant-loop-i : goal.invariant-loop-i
invariant-loop-i l = (u : Term) → SubtermAt l.at l.self u ↔ SubtermAt (drop l.i l.numbers) l.here u

use Rattle.std.proofs.Common.{◌↔◌, drop}
use Rattle.ranked_terms.specs.declared.term.Term.{Term}
use Rattle.ranked_terms.specs.Positions.{SubtermAt, ReplacedAt}
use Rattle.ranked_terms.proofs.term.Term.changed_at.Given as goal

abbrev pub invariant-loop-i : goal.invariant-loop-i
invariant-loop-i l = (u v : Term) → (SubtermAt l.at l.self u × ReplacedAt v l.at l.self l.other) ↔ (SubtermAt (drop l.i l.numbers) l.here u × ReplacedAt v (drop l.i l.numbers) l.here l.there)

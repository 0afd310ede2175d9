use Rattle.std.proofs.Common.{◌≡◌, ◌==◌, ◌||◌, map, drop}
use Rattle.std.specs.List.{find}
use Rattle.ranked_terms.specs.Terms.{joined, occurrences}
use Rattle.trs_rules.proofs.occurrences.+first_of.Given as goal

-- what is to come has the same first variable
abbrev pub invariant-loop-arg : goal.invariant-loop-arg
invariant-loop-arg l = find (λ x. x == l.v || x == l.w) (joined (map occurrences (drop l.arg-index l.arg-items))) ≡ find (λ x. x == l.v || x == l.w) (occurrences l.pattern)

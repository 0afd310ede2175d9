use Rattle.std.proofs.Common.{◌≡◌, map, drop}
use Rattle.ranked_terms.specs.Terms.{joined, occurrences}
use Rattle.trs_rules.specs.Variables.{first_free}
use Rattle.trs_rules.proofs.occurrences.+free_variable.Given as goal

-- what is to come has the same first free variable
abbrev pub invariant-loop-arg : goal.invariant-loop-arg
invariant-loop-arg l = first_free (occurrences l.binder) (joined (map occurrences (drop l.arg-index l.arg-items))) ≡ first_free (occurrences l.binder) (occurrences l.pattern)

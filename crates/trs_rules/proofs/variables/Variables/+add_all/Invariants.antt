use Rattle.std.proofs.Common.{◌≡◌, fold, map, drop}
use Rattle.ranked_terms.specs.Terms.{joined, occurrences, with_variable}
use Rattle.trs_rules.proofs.variables.Variables.+add_all.Given as goal

-- what is to come is still to be added
abbrev pub invariant-loop-arg : goal.invariant-loop-arg
invariant-loop-arg l = fold with_variable l.self (joined (map occurrences (drop l.arg-index l.arg-items))) ≡ fold with_variable l.fn.self (occurrences l.pattern)

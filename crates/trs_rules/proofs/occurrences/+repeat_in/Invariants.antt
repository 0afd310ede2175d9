use Rattle.std.proofs.Common.{◌≡◌, ◌++◌, ℕ, List, map, take}
use Rattle.ranked_terms.specs.Terms.{joined, occurrences}
use Rattle.trs_rules.specs.Variables.{IsSeen}
use Rattle.trs_rules.proofs.occurrences.+repeat_in.Given as goal

-- the arguments so far have no repeat
abbrev pub invariant-loop-arg : goal.invariant-loop-arg
invariant-loop-arg l = (seen rest : List ℕ) → occurrences l.whole ≡ seen ++ (occurrences l.part ++ rest) → IsSeen seen l.fn.last → IsSeen (seen ++ joined (map occurrences (take l.arg-index l.arg-items))) l.last

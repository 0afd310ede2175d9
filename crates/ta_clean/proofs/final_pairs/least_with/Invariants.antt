use Rattle.std.proofs.Common.{◌<◌, ℕ, get_or}
use Rattle.ta_clean.specs.Tables.{IsMarked}
use Rattle.ta_clean.proofs.final_pairs.least_with.Given as goal

abbrev pub invariant-loop-second : goal.invariant-loop-second
invariant-loop-second l = (j : ℕ) → j < l.second-index → IsMarked l.meetings.table (l.first, get_or l.seconds j 0) → ⊥

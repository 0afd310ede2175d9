use Rattle.std.proofs.Common.{◌<◌, ℕ, get_or}
use Rattle.ta_clean.proofs.least.LeastMembers.{NoneMeets}
use Rattle.ta_clean.proofs.final_pairs.least_meeting.Given as goal

abbrev pub invariant-loop-state : goal.invariant-loop-state
invariant-loop-state l = (j : ℕ) → j < l.state-index → NoneMeets l.first l.second (get_or l.first.finals j 0)

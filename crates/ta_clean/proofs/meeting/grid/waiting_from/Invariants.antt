use Rattle.std.proofs.Common.{◌≡◌, ◌≤◌, ◌<◌, ℕ, Some, slice_get}
use Rattle.ta_clean.specs.declared.meeting.grid.Mark.TheVariants.{Waiting}
use Rattle.ta_clean.proofs.meeting.grid.waiting_from.Given as goal

abbrev pub invariant-loop-place : goal.invariant-loop-place
invariant-loop-place l = (k : ℕ) → l.start ≤ k → k < l.place → slice_get l.marks k ≡ Some Waiting → ⊥

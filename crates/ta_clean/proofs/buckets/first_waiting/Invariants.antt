use Rattle.std.proofs.Common.{◌≡◌, ◌<◌, ℕ, false}
use Rattle.ta_clean.specs.Sizes.{waits_in}
use Rattle.ta_clean.proofs.buckets.first_waiting.Given as goal

abbrev pub invariant-loop-place : goal.invariant-loop-place
invariant-loop-place l = (k : ℕ) → k < l.place → waits_in l.made k ≡ false

use Rattle.std.proofs.Common.{◌≡◌, ◌<◌, ℕ}
use Rattle.ta_core.specs.Acceptance.{image}
use Rattle.eq_merge.proofs.renaming.Renaming.moved.Given as goal

abbrev pub invariant-loop-q : goal.invariant-loop-q
invariant-loop-q l = (r : ℕ) → r < l.q → image l.least r ≡ r

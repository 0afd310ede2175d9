use Rattle.std.proofs.Common.{◌≡◌, ℕ, take, length}
use Rattle.ta_core.specs.Acceptance.{image}
use Rattle.eq_merge.specs.Joined.{Joined}
use Rattle.eq_merge.specs.Ends.{AreEquatedBy}
use Rattle.eq_merge.proofs.passes.join_each.Given as goal

abbrev pub invariant-loop-equation : goal.invariant-loop-equation
invariant-loop-equation l = record {
  long : length l.classes ≡ length l.initial.classes;
  joined : Joined (AreEquatedBy l.matcher l.equations) l.initial.classes l.classes;
  all : (p q : ℕ) → AreEquatedBy l.matcher (take l.equation-index l.equations) p q → image l.classes p ≡ image l.classes q;
}

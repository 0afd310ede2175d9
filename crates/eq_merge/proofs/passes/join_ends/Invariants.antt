use Rattle.std.proofs.Common.{◌≡◌, take, length, Contains}
use Rattle.ta_core.specs.declared.trans.Trans.{Trans}
use Rattle.eq_merge.specs.Joined.{Joined}
use Rattle.eq_merge.specs.Ends.{IsLed}
use Rattle.eq_merge.specs.Passes.{IsLeader}
use Rattle.eq_merge.proofs.passes.join_ends.Given as goal

abbrev pub invariant-loop-end : goal.invariant-loop-end
invariant-loop-end l = record {
  long : length l.classes ≡ length l.initial.classes;
  joined : Joined (IsLeader l.lookup l.ends) l.initial.classes l.classes;
  led : (t : Trans) → Contains (take l.end-index l.ends) t → IsLed l.lookup l.classes t;
}

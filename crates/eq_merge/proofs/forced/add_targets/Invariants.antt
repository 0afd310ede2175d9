use Rattle.std.proofs.Common.{◌≡◌, ◌++◌, map, take}
use Rattle.ta_core.specs.declared.trans.Trans.{Trans}
use Rattle.eq_merge.proofs.forced.add_targets.Given as goal

abbrev pub invariant-loop-t : goal.invariant-loop-t
invariant-loop-t l = l.found.items ≡ l.initial.found.items ++ map (λ (t : Trans). t.to) (take l.t-index l.trans)

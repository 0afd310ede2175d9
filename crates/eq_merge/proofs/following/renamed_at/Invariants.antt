use Rattle.std.proofs.Common.{map, Contains}
use Rattle.ta_core.specs.declared.trans.Trans.{Trans}
use Rattle.eq_merge.specs.Quotients.{renamed}
use Rattle.eq_merge.proofs.following.renamed_at.Given as goal

abbrev pub invariant-loop-place : goal.invariant-loop-place
invariant-loop-place l = (t : Trans) → Contains l.chosen t → Contains (map (renamed l.classes) l.trans) t

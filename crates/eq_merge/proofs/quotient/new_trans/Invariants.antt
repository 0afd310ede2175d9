use Rattle.std.proofs.Common.{◌≡◌, map, take}
use Rattle.eq_merge.specs.Quotients.{renamed}
use Rattle.eq_merge.proofs.quotient.new_trans.Given as goal

abbrev pub invariant-loop-t : goal.invariant-loop-t
invariant-loop-t l = l.new ≡ map (renamed l.classes) (take l.t-index l.trans)

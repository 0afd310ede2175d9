use Rattle.std.proofs.Common.{◌≡◌, map, filter, take}
use Rattle.eq_merge.specs.Quotients.{renamed_eps, moves}
use Rattle.eq_merge.proofs.quotient.new_eps.Given as goal

abbrev pub invariant-loop-from : goal.invariant-loop-from
invariant-loop-from l = l.new ≡ filter moves (map (renamed_eps l.classes) (take l.from-index l.eps))

use Rattle.std.proofs.Common.{◌≡◌, nat_lt, filter, take}
use Rattle.eq_merge.proofs.forced.above.Given as goal

abbrev pub invariant-loop-q : goal.invariant-loop-q
invariant-loop-q l = l.greater ≡ filter (λ q. nat_lt l.p q) (take l.q-index l.states)

use Rattle.std.proofs.Common.{◌≡◌, ◌==◌, take, filter}
use Rattle.std.specs.List.{list_any}
use Rattle.eq_merge.proofs.ends.in_both.Given as goal

abbrev pub invariant-loop-v : goal.invariant-loop-v
invariant-loop-v l = l.both ≡ filter (λ v. list_any (λ w. v == w) l.second) (take l.v-index l.first)

use Rattle.std.proofs.Common.{◌≡◌, ◌+◌, ◌<◌, take}
use Rattle.ta_clean.specs.Sizes.{sum_at}
use Rattle.ta_clean.proofs.sizes.SizeTable.sum_of.Given as goal

abbrev pub invariant-loop-place : goal.invariant-loop-place
invariant-loop-place l = record {
  sum_is : l.sum ≡ sum_at l.self (take l.place l.firsts) (take l.place l.seconds) + 1;
  small : l.sum < 1025;
}

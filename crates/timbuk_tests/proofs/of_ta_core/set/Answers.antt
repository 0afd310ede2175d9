use Rattle.std.proofs.Common.{refl}
use Rattle.std.specs.List.Sorted.{IsStrictlySortedBy}
use Rattle.timbuk_tests.proofs.of_ta_core.set.Goals as goal

pub from_slice-requires : goal.from_slice-requires
unfolding IsStrictlySortedBy
from_slice-requires c = ((refl, (refl, tt)), ((refl, tt), (tt, tt)))

use Rattle.std.proofs.Common.{refl}
use Rattle.std.specs.List.Sorted.{IsStrictlySortedBy}
use Rattle.timbuk_tests.proofs.of_ta_core.with_six_states.Goals as goal

pub with_states-requires-clause-ascend : goal.with_states-requires-clause-ascend
unfolding IsStrictlySortedBy
with_states-requires-clause-ascend c =
    ((refl, (refl, (refl, (refl, (refl, tt))))), ((refl, (refl, (refl, (refl, tt)))), ((refl, (refl, (refl, tt))), ((refl, (refl, tt)), ((refl, tt), (tt, tt))))))

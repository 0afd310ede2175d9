use Rattle.std.proofs.Common.{length, ap, arith}
use Rattle.std.proofs.lemmas.List.FromFn.{length-range_with_len}
use Rattle.eq_merge.proofs.following.joined_in.Goals as goal

pub join_equated-requires : goal.join_equated-requires
join_equated-requires c = omega (arith, ap length c.in_ok-joined.ensures, length-range_with_len 0 c.next.result, c.next.ensures.value)

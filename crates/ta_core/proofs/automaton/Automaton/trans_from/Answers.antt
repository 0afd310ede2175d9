use Rattle.std.proofs.Common.{ltb, leb, rules, drop}
use Rattle.std.proofs.lemmas.List.{take_rest}
use Rattle.std.proofs.lemmas.List.Sorted.{IsPartitionPoint-from_clause, IsPartitionedBy-ltb, IsPartitionedBy-leb, IsNonDecreasingBy-drop}
use Rattle.ta_core.specs.declared.trans.Trans.{Trans}
use Rattle.ta_core.specs.Orders.{rank_of}
use Rattle.list_laws.proofs.Lookups.{part_of_key}
use Rattle.ta_core.proofs.Ranks.{ranks_ascend, rank_is}
use Rattle.ta_core.proofs.automaton.Automaton.trans_from.Goals as goal

pub returns-clause-members : goal.returns-clause-members
returns-clause-members c t =
    let all = c.trans-all.result.now in
    let key = rank_of c.args.sym c.args.prefix.now in
    let rising = ranks_ascend c.args.sym c.args.prefix.now all (rw c.trans-all.ensures.value c.trans-all.ensures.sorted) in
    let start = c.partition_point-start.result in
    let lower = IsPartitionPoint-from_clause (λ (t : Trans). ltb (key t) 1) all _ c.partition_point-start.ensures.partitioned (IsPartitionedBy-ltb key all 1 rising) (λ a r f' called. search rules) in
    let upper = IsPartitionPoint-from_clause (λ (t : Trans). leb (key t) 1) (drop start all) _ (rw (take_rest all start) at c.partition_point-count.ensures.partitioned) (IsPartitionedBy-leb key (drop start all) 1 (IsNonDecreasingBy-drop key start all rising)) (λ a r f' called. search rules) in
    let part = part_of_key key 1 all _ _ c.partition_point-start.ensures.bound (rw (take_rest all start) at c.partition_point-count.ensures.bound) lower upper t in
    let is = rank_is c.args.sym c.args.prefix.now t in
    rw (take_rest all start, ← c.trans-all.ensures.value) (λ i. let e = is.0 (part.0 i).1 in ((part.0 i).0, e.0, e.1), λ h. part.1 (h.0, is.1 (h.1, h.2)))

use Rattle.std.proofs.Common.{ltb, leb, rules, drop}
use Rattle.std.proofs.lemmas.List.{take_rest}
use Rattle.std.proofs.lemmas.List.Sorted.{IsPartitionPoint-from_clause, IsPartitionedBy-ltb, IsPartitionedBy-leb, IsNonDecreasingBy-drop}
use Rattle.ta_core.specs.declared.trans.Trans.{Trans}
use Rattle.ta_core.specs.lemmas.Orders.{trans_ascend}
use Rattle.list_laws.proofs.Lookups.{part_of_key}
use Rattle.ta_core.proofs.automaton.Automaton.trans_with.Goals as goal

pub returns-clause-members : goal.returns-clause-members
returns-clause-members c =
    let all = c.trans-all.result.now in
    let rising = trans_ascend all (rw c.trans-all.ensures.value c.trans-all.ensures.sorted) in
    let start = c.partition_point-start.result in
    let lower = IsPartitionPoint-from_clause (λ (t : Trans). ltb t.sym c.args.sym) all _ c.partition_point-start.ensures.partitioned (IsPartitionedBy-ltb (λ (t : Trans). t.sym) all c.args.sym rising) (λ a r f' called. search rules) in
    let upper = IsPartitionPoint-from_clause (λ (t : Trans). leb t.sym c.args.sym) (drop start all) _ (rw (take_rest all start) at c.partition_point-count.ensures.partitioned) (IsPartitionedBy-leb (λ (t : Trans). t.sym) (drop start all) c.args.sym (IsNonDecreasingBy-drop (λ (t : Trans). t.sym) start all rising)) (λ a r f' called. search rules) in
    rw (take_rest all start, ← c.trans-all.ensures.value) (part_of_key (λ (t : Trans). t.sym) c.args.sym all _ _ c.partition_point-start.ensures.bound (rw (take_rest all start) at c.partition_point-count.ensures.bound) lower upper)

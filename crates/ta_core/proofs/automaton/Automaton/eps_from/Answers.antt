use Rattle.std.proofs.Common.{ℕ, ltb, leb, rules, drop}
use Rattle.std.proofs.lemmas.List.{take_rest}
use Rattle.std.proofs.lemmas.List.Sorted.{IsPartitionPoint-from_clause, IsPartitionedBy-ltb, IsPartitionedBy-leb, IsNonDecreasingBy-drop}
use Rattle.ta_core.specs.lemmas.Orders.{eps_ascend}
use Rattle.list_laws.proofs.Lookups.{part_of_key}
use Rattle.ta_core.proofs.automaton.Automaton.eps_from.Goals as goal

pub returns-clause-members : goal.returns-clause-members
returns-clause-members c =
    let all = c.eps-all.result.now in
    let rising = eps_ascend all (rw c.eps-all.ensures.value c.eps-all.ensures.sorted) in
    let start = c.partition_point-start.result in
    let lower = IsPartitionPoint-from_clause (λ (e : ℕ × ℕ). ltb e.0 c.args.state) all _ c.partition_point-start.ensures.partitioned (IsPartitionedBy-ltb (λ (e : ℕ × ℕ). e.0) all c.args.state rising) (λ a r f' called. search rules) in
    let upper = IsPartitionPoint-from_clause (λ (e : ℕ × ℕ). leb e.0 c.args.state) (drop start all) _ (rw (take_rest all start) at c.partition_point-count.ensures.partitioned) (IsPartitionedBy-leb (λ (e : ℕ × ℕ). e.0) (drop start all) c.args.state (IsNonDecreasingBy-drop (λ (e : ℕ × ℕ). e.0) start all rising)) (λ a r f' called. search rules) in
    rw (take_rest all start, ← c.eps-all.ensures.value) (part_of_key (λ (e : ℕ × ℕ). e.0) c.args.state all _ _ c.partition_point-start.ensures.bound (rw (take_rest all start) at c.partition_point-count.ensures.bound) lower upper)

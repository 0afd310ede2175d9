use Rattle.std.proofs.Common.{ℕ, ltb, leb, rules, drop, sym, subst}
use Rattle.std.specs.List.Sorted.{IsNonDecreasingBy}
use Rattle.std.proofs.lemmas.List.{take_rest}
use Rattle.std.proofs.lemmas.List.Sorted.{IsPartitionPoint-from_clause, IsPartitionedBy-ltb, IsPartitionedBy-leb, IsNonDecreasingBy-drop}
use Rattle.list_laws.proofs.Lookups.{part_of_key}
use Rattle.term_store.proofs.index.RuleIndex.with_root.Goals as goal

pub returns : goal.returns
returns c =
    let all = c.as_slice-all.result.now in
    let rising = subst (IsNonDecreasingBy (λ (e : ℕ × ℕ). e.0)) (sym c.as_slice-all.ensures.value) c.self.invariant in
    let start = c.partition_point-start.result in
    let lower = IsPartitionPoint-from_clause (λ (e : ℕ × ℕ). ltb e.0 c.args.sym) all _ c.partition_point-start.ensures.partitioned (IsPartitionedBy-ltb (λ (e : ℕ × ℕ). e.0) all c.args.sym rising) (λ a r f' called. search rules) in
    let upper = IsPartitionPoint-from_clause (λ (e : ℕ × ℕ). leb e.0 c.args.sym) (drop start all) _ (rw (take_rest all start) at c.partition_point-count.ensures.partitioned) (IsPartitionedBy-leb (λ (e : ℕ × ℕ). e.0) (drop start all) c.args.sym (IsNonDecreasingBy-drop (λ (e : ℕ × ℕ). e.0) start all rising)) (λ a r f' called. search rules) in
    rw (take_rest all start, ← c.self.view_is, ← c.as_slice-all.ensures.value) (part_of_key (λ (e : ℕ × ℕ). e.0) c.args.sym all _ _ c.partition_point-start.ensures.bound (rw (take_rest all start) at c.partition_point-count.ensures.bound) lower upper)

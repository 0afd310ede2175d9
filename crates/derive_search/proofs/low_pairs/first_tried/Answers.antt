use Rattle.std.proofs.Common.{ℕ, Bool, not, rules, arith}
use Rattle.std.proofs.lemmas.List.Sorted.{IsPartitionPoint-from_clause}
use Rattle.derive_search.proofs.pairs.OldFirst.{parted, not_true}
use Rattle.derive_search.proofs.low_pairs.first_tried.Goals as goal

pub returns-then-all : goal.returns-then-all
returns-then-all c k d l = absurd (omega (arith, l))

pub returns : goal.returns
returns c k d l =
    let point = IsPartitionPoint-from_clause (λ (e : ℕ × Bool). not e.1) c.args.candidates.now _ c.partition_point.ensures.partitioned (parted c.args.candidates.now c.requires) (λ a r f' called. search rules) in
    (c.if-all.false, not_true _ (point.0 k d (omega arith) l))

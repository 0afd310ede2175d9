use Rattle.std.proofs.Common.{ltb, leb, rules, ap, ⊎_elim, arith}
use Rattle.std.proofs.lemmas.Bool.{cases_lt, ltb-true, leb-false}
use Rattle.std.proofs.lemmas.List.Sorted.{IsPartitionPoint-from_clause, IsPartitionedBy-ltb, IsPartitionedBy-leb}
use Rattle.std.proofs.lemmas.Option.{slice_get_within, get_or_from_slice_get}
use Rattle.ta_core.specs.declared.trans.Trans.{Trans}
use Rattle.ta_core.specs.lemmas.Orders.{trans_ascend}
use Rattle.ta_clean.proofs.settling.places_with.Goals as goal

pub returns-clause-start : goal.returns-clause-start
returns-clause-start c place t at e =
    let all = c.args.all.now in
    let start = c.partition_point-start.result in
    let point = IsPartitionPoint-from_clause (λ (t : Trans). ltb t.sym c.args.sym) all _ c.partition_point-start.ensures.partitioned (IsPartitionedBy-ltb (λ (t : Trans). t.sym) all c.args.sym (trans_ascend all c.requires)) (λ a r f' called. search rules) in
    ⊎_elim
    (λ before. absurd (
    let l = ltb-true _ _ (point.0 place t (omega arith) before) in
    omega (arith, l, e, ap (λ (u : Trans). u.sym) (get_or_from_slice_get all place t t at))
    ))
    (λ low. low)
    (cases_lt place start)

pub returns-clause-end : goal.returns-clause-end
returns-clause-end c place t at e =
    let all = c.args.all.now in
    let end = c.partition_point-end.result in
    let point = IsPartitionPoint-from_clause (λ (t : Trans). leb t.sym c.args.sym) all _ c.partition_point-end.ensures.partitioned (IsPartitionedBy-leb (λ (t : Trans). t.sym) all c.args.sym (trans_ascend all c.requires)) (λ a r f' called. search rules) in
    ⊎_elim
    (λ high. high)
    (λ behind. absurd (
    let l = leb-false _ _ (point.1 place t behind (slice_get_within all place t at)) in
    omega (arith, l, e, ap (λ (u : Trans). u.sym) (get_or_from_slice_get all place t t at))
    ))
    (cases_lt place end)

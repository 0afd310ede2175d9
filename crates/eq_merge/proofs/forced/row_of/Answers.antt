use Rattle.std.proofs.Common.{[], ap, ◌∙◌, ◌<◌, filter, nat_lt}
use Rattle.std.specs.Ordering.{nat_cmp}
use Rattle.std.proofs.lemmas.Result.{IfOk-weaker}
use Rattle.list_laws.specs.Listings.{IsListing}
use Rattle.eq_merge.specs.Rows.{IsOpposite, AreOpposite}
use Rattle.eq_merge.proofs.finding.Gathering.{more_of, none_of, all_of, row_is}
use Rattle.eq_merge.proofs.forced.row_of.Goals as goal

pub loop-ends-init : goal.loop-ends-init
loop-ends-init c = none_of [] c.new-found.result.items (IsOpposite c.args.p) c.new-found.ensures.items

pub loop-ends-preserved : goal.loop-ends-preserved
loop-ends-preserved c =
    more_of [] c.args.all.now (IsOpposite c.args.p) c.loop-ends.ends-index c.ends-item.result c.loop-ends.found.items c.add_opposites.new.found.items c.loop-ends-test.true c.ends-item.is
    c.loop-ends.invariant c.in_ok-add_opposites.ensures

pub returns : goal.returns
returns c =
    IfOk-weaker c.above.result _ (IsListing nat_cmp (λ q. (c.args.p < q) × AreOpposite c.args.all.now c.args.p q))
    (λ row is. row_is c.args.p c.args.all.now c.loop-ends.found.items c.in_ok-row.row row
    (all_of [] c.args.all.now (IsOpposite c.args.p) c.loop-ends.ends-index c.loop-ends.found.items c.loop-ends-test.false c.loop-ends.invariant) c.in_ok-row.ensures
    c.as_slice.ensures.sorted (is ∙ ap (filter (λ q. nat_lt c.args.p q)) c.as_slice.ensures.value)) c.above.ensures

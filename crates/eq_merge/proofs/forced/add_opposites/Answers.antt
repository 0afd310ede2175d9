use Rattle.std.proofs.Common.{refl, subst}
use Rattle.eq_merge.specs.Rows.{HasMore, LeadsAcross}
use Rattle.eq_merge.proofs.finding.Gathering.{more_of, none_of, all_of}
use Rattle.eq_merge.proofs.forced.add_opposites.Goals as goal

pub loop-end-init : goal.loop-end-init
loop-end-init c = none_of c.args.found.now.items c.args.found.now.items (LeadsAcross c.args.ends.now c.args.p) refl

pub loop-end-preserved : goal.loop-end-preserved
loop-end-preserved c =
    more_of c.args.found.now.items c.trans-end-items.result.now (LeadsAcross c.args.ends.now c.args.p) c.loop-end.end-index c.end-item.result c.loop-end.found.items c.add_across.new.found.items
    c.loop-end-test.true c.end-item.is c.loop-end.invariant c.in_ok-add_across.ensures

pub returns : goal.returns
returns c =
    subst (λ ts. HasMore c.args.found.now.items ts (LeadsAcross c.args.ends.now c.args.p) c.loop-end.found.items) c.trans-end-items.ensures.value
    (all_of c.args.found.now.items c.trans-end-items.result.now (LeadsAcross c.args.ends.now c.args.p) c.loop-end.end-index c.loop-end.found.items c.loop-end-test.false c.loop-end.invariant)

use Rattle.eq_merge.proofs.finding.Gathering.{adds_targets, adds_nothing}
use Rattle.eq_merge.proofs.finding.Leading.{on_ok}
use Rattle.eq_merge.proofs.forced.add_across.Goals as goal

pub returns-then-end-p : goal.returns-then-end-p
returns-then-end-p c = adds_nothing c.args.ends.now c.args.p c.args.end.now c.args.found.now.items c.if-end-p.true

pub returns : goal.returns
returns c =
    on_ok c.add_targets.result
    (adds_targets c.args.ends.now c.args.p c.across.result c.as_slice.result.now c.args.end.now c.trans_from.result.now c.args.found.now.items c.add_targets.new.found.items c.if-end-p.false
    c.across.ensures c.as_slice.ensures c.trans_from.ensures.members) c.add_targets.ensures

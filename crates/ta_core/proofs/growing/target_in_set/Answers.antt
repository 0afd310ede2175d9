use Rattle.std.proofs.Common.{sym, subst}
use Rattle.ta_core.specs.KeptAside.{IsLeastOf}
use Rattle.ta_core.proofs.LeastTargets.{next_in_set, none_in_set, next_tells}
use Rattle.ta_core.proofs.growing.target_in_set.Goals as goal

pub returns-in_err-next : goal.returns-in_err-next
returns-in_err-next c =
    let key = c.args.key.now in
    subst (IsLeastOf c.args.trans.now.keys key) (sym c.from_residual.ensures)
    (none_in_set c.args.trans.now key c.range.result c.requires (c.range.ensures.in_range tt) c.in_err-next.ensures.steps.0)

pub returns : goal.returns
returns c =
    let key = c.args.key.now in
    let next = next_in_set c.args.trans.now key c.in_ok-next.next.now c.next.new.self c.range.result c.requires (c.range.ensures.in_range tt) c.in_ok-next.ensures.steps in
    next_tells c.args.trans.now.keys key c.in_ok-next.next.now c.target_of.result next c.target_of.ensures.some c.target_of.ensures.none

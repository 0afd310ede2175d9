use Rattle.std.proofs.Common.{[], ap, ◌++◌, ◌∙◌}
use Rattle.eq_merge.proofs.finding.Gathering.{more_of, all_of}
use Rattle.eq_merge.proofs.finding.Parts.{StandsAt, more_states}
use Rattle.eq_merge.proofs.following.states_of.Goals as goal

pub loop-t-preserved : goal.loop-t-preserved
loop-t-preserved c =
    let t = c.t-item.result in
    more_of [] c.args.trans.now StandsAt c.loop-t.t-index t c.loop-t.states.items c.push.new.self.items c.loop-t-test.true c.t-item.is c.loop-t.invariant
    (more_states c.loop-t.states.items c.extend_from_slice.new.self.items c.push.new.self.items t (c.in_ok-extend_from_slice.ensures.items ∙ ap (λ xs. c.loop-t.states.items ++ xs) c.as_slice.ensures)
    c.in_ok-push.ensures.items)

pub returns : goal.returns
returns c = all_of [] c.args.trans.now StandsAt c.loop-t.t-index c.loop-t.states.items c.loop-t-test.false c.loop-t.invariant

use Rattle.std.proofs.Common.{◌∙◌, sym, ap, subst}
use Rattle.std.specs.List.{filter}
use Rattle.std.specs.Ordering.{nat_cmp}
use Rattle.std.specs.List.Sorted.{IsStrictlySortedBy}
use Rattle.std.proofs.lemmas.List.{take_all}
use Rattle.std.proofs.lemmas.List.Kept.{IsStrictlySortedBy-filter}
use Rattle.state_match.proofs.members.Outside.{misses, one_more, kept, left_out, outside_members}
use Rattle.state_match.proofs.missed.outside.Goals as goal
use Rattle.state_match.proofs.missed.outside.Goals.{then-not-contains+in_ok-push, else-not-contains}

pub loop-state-preserved : goal.loop-state-preserved
loop-state-preserved c =
    one_more c.args.set.now c.args.states.now c.loop-state.state-index c.loop-state.others.items c.if-not-contains.others.items c.contains.result c.loop-state-test.true c.loop-state.invariant c.contains.ensures
    (elim c.if-not-contains.branch [
      | then-not-contains+in_ok-push w ↦ kept c.args.set.now _ c.loop-state.others.items c.if-not-contains.others.items c.contains.result w.if-not-contains.true (ap (λ v. v.items) w.others-is ∙ w.in_ok-push.ensures.items)
      | else-not-contains w ↦ left_out c.args.set.now _ c.loop-state.others.items c.if-not-contains.others.items c.contains.result w.if-not-contains.false (ap (λ v. v.items) w.others-is)
    ])

pub returns-clause-members : goal.returns-clause-members
returns-clause-members c =
    outside_members c.args.set.now c.args.states.now c.loop-state.others.items (c.loop-state.invariant ∙ ap (filter (misses c.args.set.now)) (take_all c.loop-state.state-index c.args.states.now c.loop-state-test.false))

pub returns-clause-order : goal.returns-clause-order
returns-clause-order c = λ sorted.
    subst (IsStrictlySortedBy nat_cmp) (sym (c.loop-state.invariant ∙ ap (filter (misses c.args.set.now)) (take_all c.loop-state.state-index c.args.states.now c.loop-state-test.false)))
    (IsStrictlySortedBy-filter nat_cmp (misses c.args.set.now) c.args.states.now sorted)

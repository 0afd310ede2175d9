use Rattle.std.proofs.Common.{◌∙◌, ℕ, Vec, Global, true≢false, sym, ap}
use Rattle.ta_clean.proofs.languages.AllTerms.{marked_more, marked_no_more, marked_all}
use Rattle.ta_clean.proofs.emptiness.marked_states.Goals as goal
use Rattle.ta_clean.proofs.emptiness.marked_states.Goals.{then-contains+in_ok-push, else-contains}

pub loop-state-preserved : goal.loop-state-preserved
loop-state-preserved c =
    let table = c.args.meetings.now.table in
    let items = c.args.states.now in
    let k = c.loop-state.state-index in
    elim c.if-contains.branch [
      | then-contains+in_ok-push w ↦ marked_more table items k c.loop-state-test.true c.loop-state.all.items c.if-contains.all.items c.loop-state.invariant (c.contains.ensures.0 w.if-contains.true) (ap (λ (v : Vec ℕ Global). v.items) w.all-is ∙ w.in_ok-push.ensures.items)
      | else-contains w ↦ rw w.all-is (marked_no_more table items k c.loop-state-test.true c.loop-state.all.items c.loop-state.invariant (λ m. true≢false (sym (c.contains.ensures.1 m) ∙ w.if-contains.false)))
    ]

pub returns : goal.returns
returns c = marked_all c.args.meetings.now.table c.args.states.now c.loop-state.state-index c.loop-state.all.items c.loop-state-test.false c.loop-state.invariant

use Rattle.closure_check.proofs.sets.Reaching.{room_on, rows_are_reached, reached_there}
use Rattle.closure_check.proofs.running.close.Goals as goal

pub join_rows-requires : goal.join_rows-requires
join_rows-requires c =
    let A = c.args.automaton.now in
    let leads = c.forward.ensures (c.leads_on.ensures.some c.if-leads_on.true) in
    record {
      reached = (A.eps, leads.reached);
      room = room_on A c.states.ensures.sound c.forward.result.now leads c.args.set.now.members c.requires.states c.args.set.now.size c.requires.room;
    }

pub returns-then-leads_on-clause-members : goal.returns-then-leads_on-clause-members
returns-then-leads_on-clause-members c q =
    let A = c.args.automaton.now in
    let leads = c.forward.ensures (c.leads_on.ensures.some c.if-leads_on.true) in
    let row = rows_are_reached A c.states.ensures.sound c.forward.result.now leads c.args.set.now.members c.requires.states q in
    (λ i. row.0 ((c.join_rows.ensures.members q).0 i), λ r. (c.join_rows.ensures.members q).1 (row.1 r))

pub returns-else-leads_on-clause-members : goal.returns-else-leads_on-clause-members
returns-else-leads_on-clause-members c = reached_there c.args.automaton.now c.args.set.now.members (c.leads_on.ensures.none c.if-leads_on.false)

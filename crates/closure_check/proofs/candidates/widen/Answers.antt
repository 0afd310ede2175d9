use Rattle.std.proofs.Common.{◌≡◌, map, length, rules}
use Rattle.reach_rows.specs.Paths.{turn_edge}
use Rattle.reach_rows.specs.lemmas.PathLaws.{turned_reached}
use Rattle.closure_check.proofs.sets.Reaching.{room_back, rows_lead_back}
use Rattle.closure_check.proofs.candidates.widen.Goals as goal

some_eps : (c : goal.After-back) → ¬ (length c.args.automaton.now.eps ≡ 0)
some_eps c = search rules

pub join_rows-requires : goal.join_rows-requires
join_rows-requires c =
    let A = c.args.automaton.now in
    let leads = c.back.ensures (some_eps c) in
    record {
      reached = (map turn_edge A.eps, turned_reached A.eps c.back.result.now.rows leads.reached);
      room = room_back A c.eps.ensures.sound c.back.result.now leads c.args.set.now.members c.args.set.now.size c.requires c.listed.ensures.below;
    }

pub returns-clause-widens : goal.returns-clause-widens
returns-clause-widens c p q i r member =
    let A = c.args.automaton.now in
    let leads = c.back.ensures (search rules) in
    (c.join_rows.ensures.members p).1 (rows_lead_back A c.eps.ensures.sound c.back.result.now leads c.args.set.now.members p q i r member)

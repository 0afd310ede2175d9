use Rattle.ta_core.specs.Reached.{ReachedFrom, EntersAndReaches}
use Rattle.ta_core.specs.lemmas.RunStates.{exact_by, entered_and_reached}
use Rattle.ta_core.proofs.automaton.Automaton.reached_at.Goals as goal

pub returns : goal.returns
returns c =
    let A = c.args.self.now in
    let targets = c.in_ok-targets_of.field-0 in
    exact_by (ReachedFrom A targets) (EntersAndReaches A c.args.sym c.args.sets.now) (entered_and_reached A c.args.sym c.args.sets.now targets c.in_ok-targets_of.ensures.exact) c.closed.result c.closed.ensures

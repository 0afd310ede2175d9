use Rattle.completion.proofs.EndLaws.{ends_are_one}
use Rattle.completion.proofs.laws.ends_are_one.Goals as goal

pub returns : goal.returns
returns c = ends_are_one c.closed_automata_have_no_open_pair.ensures.all c.closed_automata_have_no_open_pair.ensures.one c.stages_are_one.ensures

use Rattle.completion.proofs.StageLaws.{stages_are_one}
use Rattle.completion.proofs.laws.stages_are_one.Goals as goal

pub returns : goal.returns
returns c = stages_are_one c.closed_automata_have_no_open_pair.ensures.one c.normalising_has_one_result.ensures.all c.merging_has_one_result.ensures.merged

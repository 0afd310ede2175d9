use Rattle.completion.proofs.Existence.{stages_are_there}
use Rattle.completion.proofs.laws.stages_are_there.Goals as goal

pub returns : goal.returns
returns c = stages_are_there c.open_pairs_are_listed.ensures.listed c.open_pairs_are_listed.ensures.exact c.normalising_has_a_result.ensures.all c.normalising_grows.ensures.all c.merging_has_a_result.ensures.there

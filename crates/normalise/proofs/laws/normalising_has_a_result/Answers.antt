use Rattle.normalise.proofs.Existence.{each_is_put, each_is_normalised, all_are_normalised}
use Rattle.normalise.proofs.laws.normalising_has_a_result.Goals as goal

pub returns-clause-put : goal.returns-clause-put
returns-clause-put c = each_is_put

pub returns-clause-one : goal.returns-clause-one
returns-clause-one c = each_is_normalised

pub returns-clause-all : goal.returns-clause-all
returns-clause-all c = all_are_normalised

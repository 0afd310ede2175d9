use Rattle.normalise.proofs.OneResult.{puts_are_one, normalised_is_one, normalised_all_is_one}
use Rattle.normalise.proofs.laws.normalising_has_one_result.Goals as goal

pub returns-clause-puts : goal.returns-clause-puts
returns-clause-puts c = puts_are_one

pub returns-clause-one : goal.returns-clause-one
returns-clause-one c = normalised_is_one

pub returns-clause-all : goal.returns-clause-all
returns-clause-all c = normalised_all_is_one

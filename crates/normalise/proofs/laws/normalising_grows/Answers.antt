use Rattle.normalise.proofs.Stays.{puts_grow, normalised_grows, normalised_all_grows}
use Rattle.normalise.proofs.laws.normalising_grows.Goals as goal

pub returns-clause-put : goal.returns-clause-put
returns-clause-put c = puts_grow

pub returns-clause-one : goal.returns-clause-one
returns-clause-one c = normalised_grows

pub returns-clause-all : goal.returns-clause-all
returns-clause-all c = normalised_all_grows

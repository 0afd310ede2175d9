use Rattle.ta_core.proofs.closure.Factor.{instances_factor, instances_compose}
use Rattle.ta_core.proofs.laws.runs_of_instances_factor.Goals as goal

pub returns-clause-factor : goal.returns-clause-factor
returns-clause-factor c = instances_factor

pub returns-clause-compose : goal.returns-clause-compose
returns-clause-compose c = instances_compose

use Rattle.trs_rules.proofs.steps.OverLaws.{steps_stay_over, chains_stay_over}
use Rattle.trs_rules.proofs.laws.steps_stay_over.Goals as goal

pub returns-clause-steps : goal.returns-clause-steps
returns-clause-steps c = steps_stay_over

pub returns-clause-chains : goal.returns-clause-chains
returns-clause-chains c = chains_stay_over

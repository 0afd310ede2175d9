use Rattle.trs_rules.proofs.steps.StepLaws.{leads_to_itself, steps_lead, leads_are_transitive}
use Rattle.trs_rules.proofs.laws.leads_is_a_preorder.Goals as goal

pub returns-clause-itself : goal.returns-clause-itself
returns-clause-itself c = leads_to_itself

pub returns-clause-step : goal.returns-clause-step
returns-clause-step c = steps_lead

pub returns-clause-transitive : goal.returns-clause-transitive
returns-clause-transitive c = leads_are_transitive

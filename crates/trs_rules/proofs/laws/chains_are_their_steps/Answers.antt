use Rattle.trs_rules.proofs.steps.StepLaws.{chains_are_their_steps}
use Rattle.trs_rules.proofs.laws.chains_are_their_steps.Goals as goal

pub returns : goal.returns
returns c = chains_are_their_steps

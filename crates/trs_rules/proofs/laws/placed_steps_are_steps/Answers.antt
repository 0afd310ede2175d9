use Rattle.trs_rules.proofs.steps.StepLaws.{placed_steps_are_steps}
use Rattle.trs_rules.proofs.laws.placed_steps_are_steps.Goals as goal

pub returns : goal.returns
returns c = placed_steps_are_steps

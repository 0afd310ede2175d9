use Rattle.trs_rules.proofs.steps.StepLaws.{steps_are_placed}
use Rattle.trs_rules.proofs.laws.steps_are_placed.Goals as goal

pub returns : goal.returns
returns c = steps_are_placed

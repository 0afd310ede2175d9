use Rattle.trs_rules.proofs.steps.StepLaws.{more_rules_keep_steps}
use Rattle.trs_rules.proofs.laws.more_rules_keep_steps.Goals as goal

pub returns : goal.returns
returns c = more_rules_keep_steps

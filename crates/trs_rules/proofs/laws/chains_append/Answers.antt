use Rattle.trs_rules.proofs.steps.StepLaws.{chains_append}
use Rattle.trs_rules.proofs.laws.chains_append.Goals as goal

pub returns : goal.returns
returns c = chains_append

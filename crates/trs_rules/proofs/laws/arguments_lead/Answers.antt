use Rattle.trs_rules.proofs.chains.ModuloLaws.{arguments_lead}
use Rattle.trs_rules.proofs.laws.arguments_lead.Goals as goal

pub returns : goal.returns
returns c = arguments_lead

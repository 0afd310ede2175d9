use Rattle.trs_rules.proofs.chains.DerivationLaws.{decided_by}
use Rattle.trs_rules.proofs.derivation.replays.Goals as goal

pub returns : goal.returns
returns c = decided_by c.args.rules.now c.args.d.now c.first_bad_step.result c.is_none.result c.is_none.ensures c.first_bad_step.ensures.none

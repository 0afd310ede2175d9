use Rattle.trs_rules.proofs.chains.DerivedLaws.{derivations_are_chains}
use Rattle.trs_rules.proofs.laws.derivations_are_chains.Goals as goal

pub returns : goal.returns
returns c = derivations_are_chains

use Rattle.eq_merge.proofs.least.LeastMerges.{equivalences_factor}
use Rattle.eq_merge.proofs.laws.equivalences_factor.Goals as goal

pub returns : goal.returns
returns c = equivalences_factor

use Rattle.eq_merge.proofs.least.OneResult.{forced_pairs_are_one, merged_is_one}
use Rattle.eq_merge.proofs.laws.merging_has_one_result.Goals as goal

pub returns-clause-lists : goal.returns-clause-lists
returns-clause-lists c = forced_pairs_are_one

pub returns-clause-merged : goal.returns-clause-merged
returns-clause-merged c = merged_is_one

use Rattle.eq_merge.proofs.least.LeastMerges.{merged_is_least, least_merge_is_one}
use Rattle.eq_merge.proofs.laws.merging_is_least.Goals as goal

pub returns-clause-least : goal.returns-clause-least
returns-clause-least c = merged_is_least

pub returns-clause-one : goal.returns-clause-one
returns-clause-one c = least_merge_is_one

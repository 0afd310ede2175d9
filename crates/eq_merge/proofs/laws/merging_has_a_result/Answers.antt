use Rattle.std.proofs.Common.{length, arith}
use Rattle.eq_merge.specs.Merging.{pairs_of}
use Rattle.eq_merge.proofs.least.Deciding.{forced_listed}
use Rattle.eq_merge.proofs.least.Results.{merge_result, least_merge_is_merged}
use Rattle.eq_merge.proofs.laws.merging_has_a_result.Goals as goal

pub returns-clause-lists : goal.returns-clause-lists
returns-clause-lists c = λ A E are. let l = forced_listed c.runs_are_decided.ensures.plain_decided A E are (pairs_of A.states) in record { pairs = l.0; are = l.1 }

pub returns-clause-there : goal.returns-clause-there
returns-clause-there c = λ E A are below. merge_result c.runs_are_decided.ensures.plain_decided (length A.states) E are A below (omega arith)

pub returns-clause-merged : goal.returns-clause-merged
returns-clause-merged c = least_merge_is_merged c.runs_are_decided.ensures.plain_decided

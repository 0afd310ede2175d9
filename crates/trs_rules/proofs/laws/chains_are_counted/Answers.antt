use Rattle.trs_rules.proofs.chains.CountedLaws.{no_step_stays, steps_come_first, steps_come_last, counts_add_up, within_is_in_some, leads_is_in_some}
use Rattle.trs_rules.proofs.laws.chains_are_counted.Goals as goal

pub returns-clause-none : goal.returns-clause-none
returns-clause-none c = no_step_stays

pub returns-clause-first : goal.returns-clause-first
returns-clause-first c = steps_come_first

pub returns-clause-last : goal.returns-clause-last
returns-clause-last c = steps_come_last

pub returns-clause-sum : goal.returns-clause-sum
returns-clause-sum c = counts_add_up

pub returns-clause-within : goal.returns-clause-within
returns-clause-within c = within_is_in_some

pub returns-clause-some : goal.returns-clause-some
returns-clause-some c = leads_is_in_some

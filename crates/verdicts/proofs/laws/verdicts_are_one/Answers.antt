use Rattle.verdicts.proofs.OneVerdict.{verdicts_are_one, limited_verdicts_are_one}
use Rattle.verdicts.proofs.laws.verdicts_are_one.Goals as goal

pub returns-clause-one : goal.returns-clause-one
returns-clause-one c = verdicts_are_one c.answers_are_one.ensures c.ends_are_one.ensures

pub returns-clause-limits : goal.returns-clause-limits
returns-clause-limits c = limited_verdicts_are_one (returns-clause-one c)

use Rattle.ta_core.specs.lemmas.RunsLaws.{least}
use Rattle.ta_core.proofs.laws.runs_are_least.Goals as goal

pub returns : goal.returns
returns g c A closed x q r = least closed r

use Rattle.ta_core.specs.lemmas.RunsLaws.{runs_closed}
use Rattle.ta_core.proofs.laws.runs_are_closed.Goals as goal

pub returns : goal.returns
returns c = runs_closed

use Rattle.ta_core.specs.lemmas.RunsLaws.{run_from_plain}
use Rattle.ta_core.proofs.laws.plain_runs_are_runs.Goals as goal

pub returns : goal.returns
returns c A x q r = run_from_plain r

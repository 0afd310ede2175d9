use Rattle.ta_core.specs.lemmas.RunsLaws.{run_ends}
use Rattle.ta_core.proofs.laws.runs_end_in_states.Goals as goal

pub returns : goal.returns
returns c A sound x q r = run_ends sound r

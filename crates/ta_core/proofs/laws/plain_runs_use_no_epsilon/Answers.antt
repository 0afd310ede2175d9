use Rattle.ta_core.specs.lemmas.RunsLaws.{run_of_plain, plain_of_run}
use Rattle.ta_core.proofs.laws.plain_runs_use_no_epsilon.Goals as goal

pub returns : goal.returns
returns c A x q = (λ r. run_of_plain r, λ r. plain_of_run r)

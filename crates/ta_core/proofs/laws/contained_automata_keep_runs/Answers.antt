use Rattle.ta_core.proofs.acceptance.Containment.{contained_keeps_runs, contained_keeps_accepted, contains_itself}
use Rattle.ta_core.proofs.laws.contained_automata_keep_runs.Goals as goal

pub returns-clause-runs : goal.returns-clause-runs
returns-clause-runs c = contained_keeps_runs

pub returns-clause-accepted : goal.returns-clause-accepted
returns-clause-accepted c = contained_keeps_accepted

pub returns-clause-itself : goal.returns-clause-itself
returns-clause-itself c = contains_itself

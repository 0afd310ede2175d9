use Rattle.ta_core.proofs.closure.Closure.{closed_keeps_runs, closed_accepts_reached}
use Rattle.ta_core.proofs.laws.closed_automata_accept_what_is_reached.Goals as goal

pub returns-clause-runs : goal.returns-clause-runs
returns-clause-runs c = closed_keeps_runs

pub returns-clause-accepts : goal.returns-clause-accepts
returns-clause-accepts c = closed_accepts_reached

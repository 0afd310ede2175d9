use Rattle.eq_merge.proofs.quotients.Survival.{plain_runs_survive, forced_pairs_stay}
use Rattle.eq_merge.proofs.laws.plain_runs_survive.Goals as goal

pub returns-clause-runs : goal.returns-clause-runs
returns-clause-runs c = plain_runs_survive

pub returns-clause-forced : goal.returns-clause-forced
returns-clause-forced c = forced_pairs_stay

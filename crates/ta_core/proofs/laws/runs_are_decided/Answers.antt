use Rattle.ta_core.proofs.Decided.{runs_are_listed, plain_runs_are_listed, runs_are_decided, plain_runs_are_decided, languages_are_decided}
use Rattle.ta_core.proofs.laws.runs_are_decided.Goals as goal

pub returns-clause-listed : goal.returns-clause-listed
returns-clause-listed c = runs_are_listed

pub returns-clause-plain_listed : goal.returns-clause-plain_listed
returns-clause-plain_listed c = plain_runs_are_listed

pub returns-clause-decided : goal.returns-clause-decided
returns-clause-decided c = runs_are_decided

pub returns-clause-plain_decided : goal.returns-clause-plain_decided
returns-clause-plain_decided c = plain_runs_are_decided

pub returns-clause-languages : goal.returns-clause-languages
returns-clause-languages c = languages_are_decided

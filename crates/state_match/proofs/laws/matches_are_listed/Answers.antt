use Rattle.state_match.proofs.listing.Existence as existence
use Rattle.state_match.proofs.listing.Uniqueness as lists
use Rattle.state_match.proofs.laws.matches_are_listed.Goals as goal

pub returns-clause-listed : goal.returns-clause-listed
returns-clause-listed c = existence.matches_are_listed c.runs_are_decided.ensures.listed c.runs_are_decided.ensures.plain_listed

pub returns-clause-one : goal.returns-clause-one
returns-clause-one c = lists.matches_are_one

pub returns-clause-first : goal.returns-clause-first
returns-clause-first c = lists.first_matches_are_first

pub returns-clause-longer : goal.returns-clause-longer
returns-clause-longer c = lists.more_matches_are_longer

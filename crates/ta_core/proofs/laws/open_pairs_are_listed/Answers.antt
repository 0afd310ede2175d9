use Rattle.ta_core.proofs.closure.OpenLists.{triples_are_decided, open_pairs_are_listed, open_pairs_are_open_triples, open_pairs_are_listing, first_open_is_head, closed_or_first_open, fronts_begin_open_pairs, more_open_are_longer}
use Rattle.ta_core.proofs.laws.open_pairs_are_listed.Goals as goal

pub returns-clause-decided : goal.returns-clause-decided
returns-clause-decided c = triples_are_decided

pub returns-clause-listed : goal.returns-clause-listed
returns-clause-listed c = open_pairs_are_listed

pub returns-clause-exact : goal.returns-clause-exact
returns-clause-exact c = open_pairs_are_open_triples

pub returns-clause-listing : goal.returns-clause-listing
returns-clause-listing c = open_pairs_are_listing

pub returns-clause-first : goal.returns-clause-first
returns-clause-first c = first_open_is_head

pub returns-clause-or_closed : goal.returns-clause-or_closed
returns-clause-or_closed c = closed_or_first_open

pub returns-clause-fronts : goal.returns-clause-fronts
returns-clause-fronts c = fronts_begin_open_pairs

pub returns-clause-longer : goal.returns-clause-longer
returns-clause-longer c = more_open_are_longer

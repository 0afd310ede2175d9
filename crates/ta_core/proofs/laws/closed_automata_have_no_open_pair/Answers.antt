use Rattle.ta_core.proofs.closure.Closure.{closed_by_lists}
use Rattle.ta_core.proofs.closure.OpenPairs.{closed_has_no_open_pair, open_pairs_are_one, triples_are_all}
use Rattle.ta_core.proofs.closure.Ascending.{triples_ascend}
use Rattle.ta_core.proofs.laws.closed_automata_have_no_open_pair.Goals as goal

pub returns-clause-none : goal.returns-clause-none
returns-clause-none c = closed_has_no_open_pair

pub returns-clause-lists : goal.returns-clause-lists
returns-clause-lists c = closed_by_lists

pub returns-clause-one : goal.returns-clause-one
returns-clause-one c = open_pairs_are_one

pub returns-clause-all : goal.returns-clause-all
returns-clause-all c = triples_are_all

pub returns-clause-order : goal.returns-clause-order
returns-clause-order c = triples_ascend

use Rattle.list_laws.proofs.Different.{not_in_both}
use Rattle.list_laws.proofs.Ends.{last_append}
use Rattle.list_laws.proofs.Lookups.{search_finds}
use Rattle.list_laws.proofs.Positions.{mapped_place}
use Rattle.list_laws.proofs.Zips.{zip_length}
use Rattle.list_laws.proofs.Growing.{members_insert}
use Rattle.list_laws.proofs.Tests as tests
use Rattle.list_laws.proofs.of_places.Goals as goal

pub returns-clause-ends : goal.returns-clause-ends
returns-clause-ends g c before x xs = last_append before x xs

pub returns-clause-searches : goal.returns-clause-searches
returns-clause-searches g c = search_finds

pub returns-clause-mapped : goal.returns-clause-mapped
returns-clause-mapped g c = mapped_place

pub returns-clause-differ : goal.returns-clause-differ
returns-clause-differ g c = not_in_both

pub returns-clause-fits : goal.returns-clause-fits
returns-clause-fits g c = zip_length

pub returns-clause-grow : goal.returns-clause-grow
returns-clause-grow g c = members_insert

pub returns-clause-neither : goal.returns-clause-neither
returns-clause-neither g c = tests.neither

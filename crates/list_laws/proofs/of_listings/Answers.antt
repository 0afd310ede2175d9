use Rattle.list_laws.proofs.Listings.{listing_one, listing_front, front_has_more, longer_if_more, first_is_front}
use Rattle.list_laws.proofs.of_listings.Goals as goal

pub returns-clause-one : goal.returns-clause-one
returns-clause-one g c o xs ys a b = listing_one o xs ys a b

pub returns-clause-fronts : goal.returns-clause-fronts
returns-clause-fronts g c o xs ys f l = listing_front o xs ys f l

pub returns-clause-more : goal.returns-clause-more
returns-clause-more g c o n xs f l = front_has_more o n xs f l

pub returns-clause-longer : goal.returns-clause-longer
returns-clause-longer g c n xs all many = longer_if_more n xs all many

pub returns-clause-first : goal.returns-clause-first
returns-clause-first g c o both xs x s f = first_is_front o both xs x s f

-- The order of matches is total, so there is one list of them at most.
use Rattle.std.specs.Cmp.{IsTotalOrder}
use Rattle.std.proofs.lemmas.Cmp.{nat_cmp_total, nat_list_cmp_total, then_total, on_total}
use Rattle.list_laws.proofs.Listings.{listing_one, listing_front, longer_if_more}
use Rattle.state_match.specs.Matches.{match_order}
use Rattle.state_match.specs.Laws.{MatchesAreOne, FirstMatchesAreFirst, MoreMatchesAreLonger}
use Rattle.state_match.specs.declared.lists.Match.{Match}

pub match_order_total : IsTotalOrder match_order
match_order_total = then_total (on_total (λ (m : Match). m.sigma) nat_list_cmp_total) (on_total (λ (m : Match). m.state) nat_cmp_total)

pub matches_are_one : MatchesAreOne
matches_are_one plain A p xs ys a b = listing_one match_order_total xs ys a b

pub first_matches_are_first : FirstMatchesAreFirst
first_matches_are_first plain A p xs ys f l = listing_front match_order_total xs ys f l

pub more_matches_are_longer : MoreMatchesAreLonger
more_matches_are_longer plain A p n ms many all = longer_if_more n ms (λ m i. (all.exact m).1 i) many

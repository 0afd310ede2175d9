use Rattle.std.proofs.Common.{map, take}
use Rattle.term_store.proofs.MatchingLaws.{MatchedAll}
use Rattle.term_store.specs.Store.{term_at}
use Rattle.term_store.specs.Rooted.{named, AreIds}
use Rattle.term_store.proofs.rooted.+match_ids.Given as goal

abbrev pub decreases-match_ids : goal.decreases-match_ids
decreases-match_ids l = goal.size-match_ids l

abbrev pub invariant-loop-i : goal.invariant-loop-i
invariant-loop-i l = MatchedAll (take l.i l.ps) (map (term_at l.store) (take l.i l.ts)) (named l.store l.fn.binding.items) (named l.store l.binding.items) × AreIds l.store l.binding.items

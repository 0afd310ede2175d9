use Rattle.std.proofs.Common.{take}
use Rattle.ranked_terms.proofs.bindings.MatchingLaws.{MatchedAll}
use Rattle.ranked_terms.proofs.matching.+match_under.Given as goal

abbrev pub invariant-loop-i : goal.invariant-loop-i
invariant-loop-i l = MatchedAll (take l.i l.ps) (take l.i l.ts) l.fn.b l.b

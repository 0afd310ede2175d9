use Rattle.std.proofs.Common.{take}
use Rattle.ta_clean.specs.Productive.{HasAllTerms}
use Rattle.ta_clean.proofs.emptiness.add_over_zero.Given as goal

abbrev pub invariant-loop-t : goal.invariant-loop-t
invariant-loop-t l = HasAllTerms (take l.t-index l.trans) l.all

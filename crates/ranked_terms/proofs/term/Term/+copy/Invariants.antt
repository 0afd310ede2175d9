use Rattle.std.proofs.Common.{◌≡◌, take}
use Rattle.ranked_terms.proofs.term.Term.+copy.Given as goal

abbrev pub invariant-loop-arg : goal.invariant-loop-arg
invariant-loop-arg l = l.args ≡ take l.arg-index l.arg-items

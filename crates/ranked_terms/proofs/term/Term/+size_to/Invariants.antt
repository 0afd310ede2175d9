use Rattle.std.proofs.Common.{◌≡◌, ◌-◌, take, sum_by}
use Rattle.ranked_terms.specs.Terms.{size_of}
use Rattle.ranked_terms.proofs.term.Term.+size_to.Given as goal

abbrev pub invariant-loop-arg : goal.invariant-loop-arg
invariant-loop-arg l = l.left ≡ (l.cap - 1) - sum_by size_of (take l.arg-index l.arg-items)

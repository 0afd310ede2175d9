use Rattle.std.proofs.Common.{◌≡◌, ◌++◌, take}
use Rattle.ranked_terms.proofs.subterm.with_argument.Given as goal

abbrev pub invariant-loop-arg : goal.invariant-loop-arg
invariant-loop-arg l = l.args ≡ take l.arg-index l.arg-items

abbrev pub invariant-loop-arg-2 : goal.invariant-loop-arg-2
invariant-loop-arg-2 l = l.args ≡ l.initial.args ++ take l.arg-index l.arg-items

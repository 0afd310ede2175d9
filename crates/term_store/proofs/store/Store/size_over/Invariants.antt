use Rattle.std.proofs.Common.{◌≡◌, ◌+◌, sum_by, take}
use Rattle.ranked_terms.specs.Terms.{size_of}
use Rattle.term_store.specs.Store.{term_at}
use Rattle.term_store.proofs.store.Store.size_over.Given as goal

abbrev pub invariant-loop-arg : goal.invariant-loop-arg
invariant-loop-arg l = sum_by (λ a. size_of (term_at l.self a)) (take l.arg-index l.args) + l.left ≡ 1023

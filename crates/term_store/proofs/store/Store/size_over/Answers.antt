use Rattle.std.proofs.Common.{arith}
use Rattle.std.proofs.lemmas.List.Sums.{sum_by_more_le}
use Rattle.ranked_terms.specs.Terms.{size_of}
use Rattle.term_store.specs.Store.{term_at}
use Rattle.term_store.proofs.store.Store.size_over.Goals as goal

pub returns-then-left-size : goal.returns-then-left-size
returns-then-left-size c =
    let within = sum_by_more_le (λ a. size_of (term_at c.args.self.now a)) c.args.args.now c.loop-arg.arg-index 0 c.loop-arg-test.true in
    let size = c.size-size.ensures in
    let more = c.if-left-size.true in
    let so_far = c.loop-arg.invariant in
    omega (arith, within, size, more, so_far)

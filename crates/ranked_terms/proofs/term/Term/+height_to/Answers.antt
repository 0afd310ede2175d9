use Rattle.std.proofs.Common.{◌≡◌, max, arith, ◌∙◌}
use Rattle.ranked_terms.proofs.bindings.BoundLaws.{greatest_more, height_capped, max_is}
use Rattle.ranked_terms.proofs.term.Term.+height_to.Goals as goal

pub loop-arg-preserved : goal.loop-arg-preserved
loop-arg-preserved t c =
    let ts = c.as_slice-arg-items.result.now in let i = c.loop-arg.arg-index in
    let more = greatest_more ts i c.arg-item.result c.loop-arg-test.true c.arg-item.is in
    let h : c.max-highest.result ≡ max c.loop-arg.highest c.height_to.result = c.max-highest.ensures ∙ max_is c.loop-arg.highest c.height_to.result in
    omega (arith, h, more, c.loop-arg.invariant, c.height_to.ensures)

pub returns : goal.returns
returns t c =
    height_capped c.args.self.now c.loop-arg.arg-index c.as_slice-arg-items.result.now c.loop-arg.highest c.args.cap c.as_slice-arg-items.ensures c.loop-arg-test.false c.loop-arg.invariant (omega (arith, c.if-cap-eq0.false))

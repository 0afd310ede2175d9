use Rattle.std.proofs.Common.{arith}
use Rattle.reach_rows.proofs.Words.{within_more, within_ends}
use Rattle.reach_rows.proofs.bits.are_within.Goals as goal

pub loop-at-init : goal.loop-at-init
loop-at-init c = λ i l. absurd (omega (arith, l))

pub loop-at-preserved : goal.loop-at-preserved
loop-at-preserved c = within_more c.args.words.now c.args.others.now c.loop-at.at c.loop-at.invariant c.if-word-others.false

pub returns : goal.returns
returns c = λ _. within_ends c.args.words.now c.args.others.now c.loop-at.at c.loop-at.invariant (omega (arith, c.loop-at-test.false))

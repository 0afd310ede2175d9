use Rattle.std.proofs.Common.{true≢false, sym, ◌∙◌, arith}
use Rattle.ta_clean.specs.Tables.{IsMarked}
use Rattle.ta_clean.proofs.least.LeastMembers.{least_here, none_more, none_at_all}
use Rattle.ta_clean.proofs.final_pairs.least_with.Goals as goal

pub loop-second-init : goal.loop-second-init
loop-second-init c = λ j l m. absurd (omega (arith, l))

pub loop-second-preserved : goal.loop-second-preserved
loop-second-preserved c = none_more (λ q. IsMarked c.args.meetings.now.table (c.args.first, q)) c.loop-second.second-index c.args.seconds.now c.loop-second.invariant (λ m. true≢false (sym (c.contains.ensures.1 m) ∙ c.if-contains.false))

pub returns-then-contains-clause-some : goal.returns-then-contains-clause-some
returns-then-contains-clause-some c = least_here c.args.seconds.now c.requires c.loop-second.second-index c.loop-second-test.true (λ q. IsMarked c.args.meetings.now.table (c.args.first, q)) (c.contains.ensures.0 c.if-contains.true) c.loop-second.invariant

pub returns-clause-none : goal.returns-clause-none
returns-clause-none c = none_at_all (λ q. IsMarked c.args.meetings.now.table (c.args.first, q)) c.loop-second.second-index c.args.seconds.now c.loop-second-test.false c.loop-second.invariant

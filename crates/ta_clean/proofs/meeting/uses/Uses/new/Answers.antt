use Rattle.std.proofs.Common.{length, ap, arith}
use Rattle.ta_clean.proofs.marking.ArgumentPlaces.{places_more, places_all}
use Rattle.ta_clean.proofs.meeting.uses.Uses.new.Goals as goal

pub loop-trans-preserved : goal.loop-trans-preserved
loop-trans-preserved c = omega (arith, c.in-Some.ensures.1, ap length c.as_slice.ensures, c.loop-trans.invariant, places_more c.args.all.now c.loop-trans.trans-index c.trans-item.result c.loop-trans-test.true c.trans-item.is)

pub returns : goal.returns
returns c = omega (arith, c.loop-trans.invariant, places_all c.args.all.now c.loop-trans.trans-index c.loop-trans-test.false)

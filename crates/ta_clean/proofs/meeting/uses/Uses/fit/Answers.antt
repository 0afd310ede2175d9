use Rattle.std.proofs.Common.{length, true≢false, ap, sym, refl, arith}
use Rattle.ta_clean.specs.Uses.{UseRoom}
use Rattle.ta_clean.proofs.marking.ArgumentPlaces.{places_through, places_more, places_all}
use Rattle.ta_clean.proofs.meeting.uses.Uses.fit.Goals as goal

pub loop-trans-init : goal.loop-trans-init
loop-trans-init c = omega (arith, ap (λ (u : UseRoom). u.room) c.self.view_is)

pub returns-then-left-count : goal.returns-then-left-count
returns-then-left-count c = (
  λ f. absurd (true≢false (sym f)),
  λ enough. absurd (omega (arith, c.if-left-count.true, ap length c.as_slice-count.ensures, c.loop-trans.invariant, enough, places_through c.args.all.now c.loop-trans.trans-index c.trans-item.result c.loop-trans-test.true c.trans-item.is)),
)

pub loop-trans-preserved : goal.loop-trans-preserved
loop-trans-preserved c = omega (arith, c.if-left-count.false, ap length c.as_slice-count.ensures, c.loop-trans.invariant, places_more c.args.all.now c.loop-trans.trans-index c.trans-item.result c.loop-trans-test.true c.trans-item.is)

pub returns : goal.returns
returns c = (λ t. omega (arith, c.loop-trans.invariant, places_all c.args.all.now c.loop-trans.trans-index c.loop-trans-test.false), λ l. refl)

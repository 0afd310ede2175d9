use Rattle.std.proofs.Common.{◌+◌, ap, arith}
use Rattle.ta_clean.specs.declared.sizes.Made.{Made}
use Rattle.ta_clean.proofs.least.Building.{sum_more, sum_front, sum_all}
use Rattle.ta_clean.proofs.sizes.SizeTable.sum_of.Goals as goal

pub loop-place-preserved : goal.loop-place-preserved
loop-place-preserved c = record {
  sum_is = omega (arith, c.loop-place.invariant.sum_is, sum_more c.args.self.now c.args.firsts.now c.args.seconds.now c.loop-place.place c.requires c.loop-place-test.true, ap (λ (m : Made). m.size) c.get-sum.ensures.value);
  small = omega (arith, c.if-sum-ge-TOO_LARGE.false);
}

pub returns-then-sum-ge-TOO_LARGE-clause-large : goal.returns-then-sum-ge-TOO_LARGE-clause-large
returns-then-sum-ge-TOO_LARGE-clause-large c = λ l. omega (arith, c.loop-place.invariant.sum_is, sum_more c.args.self.now c.args.firsts.now c.args.seconds.now c.loop-place.place c.requires c.loop-place-test.true, ap (λ (m : Made). m.size) c.get-sum.ensures.value, c.if-sum-ge-TOO_LARGE.true, sum_front c.args.self.now c.args.firsts.now c.args.seconds.now (c.loop-place.place + 1))

pub returns-clause-small : goal.returns-clause-small
returns-clause-small c = λ l. omega (arith, c.loop-place.invariant.sum_is, sum_all c.args.self.now c.args.firsts.now c.args.seconds.now c.loop-place.place c.requires c.loop-place-test.false)

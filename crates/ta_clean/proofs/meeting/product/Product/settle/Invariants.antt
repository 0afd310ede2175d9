use Rattle.ta_clean.specs.Sizes.{AreMade, HasSizes, work_of}
use Rattle.ta_clean.proofs.least.Waiting.{AreFollowed}
use Rattle.ta_clean.proofs.meeting.product.Product.settle.Given as goal

abbrev pub invariant-loop-first : goal.invariant-loop-first
invariant-loop-first l = record {
  has : HasSizes l.self l.sizes;
  made : AreMade l.self l.sizes;
  followed : AreFollowed l.self l.sizes;
}

abbrev pub decreases-loop-first : goal.decreases-loop-first
decreases-loop-first l = work_of l.sizes

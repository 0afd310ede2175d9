use Rattle.std.proofs.Common.{◌≡◌, ◌≤◌, ◌<◌, ℕ, Some, slice_get}
use Rattle.ta_core.specs.declared.trans.Trans.{Trans}
use Rattle.ta_clean.specs.Sizes.{Lowers, FollowedBy}
use Rattle.ta_clean.proofs.meeting.product.Product.lower_constant.Given as goal

abbrev pub invariant-loop-other : goal.invariant-loop-other
invariant-loop-other l = record {
  lowers : Lowers l.self l.fn.sizes l.sizes;
  followed : (k : ℕ) → l.start ≤ k → k < l.other → (right : Trans) → slice_get l.self.second.trans k ≡ Some right → FollowedBy l.left right l.sizes;
}

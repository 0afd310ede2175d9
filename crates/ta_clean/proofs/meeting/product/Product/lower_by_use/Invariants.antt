use Rattle.std.proofs.Common.{◌≡◌, Some, slice_get, take}
use Rattle.ta_core.specs.declared.trans.Trans.{Trans}
use Rattle.ta_clean.specs.Sizes.{Sizing, FollowedBy}
use Rattle.ta_clean.specs.declared.meeting.uses.Use.{Use}
use Rattle.ta_clean.proofs.least.Waiting.{IsLowering}
use Rattle.ta_clean.proofs.meeting.product.Product.lower_by_use.Given as goal

abbrev pub invariant-loop-other : goal.invariant-loop-other
invariant-loop-other l = IsLowering l.self (λ (other : Use) (s : Sizing). (right : Trans) → slice_get l.self.second.trans other.position ≡ Some right → FollowedBy l.left right s) l.fn.sizes (take l.other-index l.other-items) l.sizes

use Rattle.std.proofs.Common.{◌≡◌, Some, slice_get, Contains, take}
use Rattle.ta_core.specs.declared.trans.Trans.{Trans}
use Rattle.ta_clean.specs.Sizes.{Sizing, FollowedBy}
use Rattle.ta_clean.specs.declared.meeting.uses.Use.{Use}
use Rattle.ta_clean.proofs.least.Waiting.{IsLowering}
use Rattle.ta_clean.proofs.meeting.product.Product.lower_by_transitions.Given as goal

abbrev pub invariant-loop-used : goal.invariant-loop-used
invariant-loop-used l = IsLowering l.self (λ (used : Use) (s : Sizing). (left right : Trans) → slice_get l.self.first.trans used.position ≡ Some left → Contains l.self.second.trans right → slice_get right.args used.slot.place ≡ Some l.second → FollowedBy left right s) l.fn.sizes (take l.used-index l.used-items) l.sizes

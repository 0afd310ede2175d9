use Rattle.std.proofs.Common.{◌≡◌, length, Contains, take}
use Rattle.ta_core.specs.declared.trans.Trans.{Trans}
use Rattle.ta_clean.specs.Sizes.{Sizing, FollowedBy}
use Rattle.ta_clean.proofs.least.Waiting.{IsLowering}
use Rattle.ta_clean.proofs.meeting.product.Product.lower_constants.Given as goal

abbrev pub invariant-loop-place : goal.invariant-loop-place
invariant-loop-place l = IsLowering l.self (λ (left : Trans) (s : Sizing). length left.args ≡ 0 → (right : Trans) → Contains l.self.second.trans right → FollowedBy left right s) l.fn.sizes (take l.place l.lefts) l.sizes

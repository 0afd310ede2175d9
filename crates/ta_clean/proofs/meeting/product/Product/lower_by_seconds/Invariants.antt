use Rattle.std.proofs.Common.{ℕ, [], ◌∷◌, take}
use Rattle.ta_clean.specs.Sizes.{Sizing, IsFollowed}
use Rattle.ta_clean.proofs.least.Waiting.{IsLowering}
use Rattle.ta_clean.proofs.meeting.product.Product.lower_by_seconds.Given as goal

abbrev pub invariant-loop-to : goal.invariant-loop-to
invariant-loop-to l = IsLowering l.self (λ (e : ℕ × ℕ) (s : Sizing). IsFollowed s ((l.first, l.second) ∷ []) (l.first, e.1) 0) l.fn.sizes (take l.to-index l.to-items) l.sizes

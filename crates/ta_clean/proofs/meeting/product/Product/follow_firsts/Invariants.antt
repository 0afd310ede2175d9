use Rattle.std.proofs.Common.{◌≡◌, ℕ, take}
use Rattle.ta_clean.proofs.marking.CommonTerms.{IsMarking}
use Rattle.ta_clean.proofs.meeting.product.Product.follow_firsts.Given as goal

abbrev pub invariant-loop-to : goal.invariant-loop-to
invariant-loop-to l = IsMarking l.self (λ (e : ℕ × ℕ) next. next ≡ (e.1, l.second)) l.fn.grid (take l.to-index l.to-items) l.grid

use Rattle.std.proofs.Common.{take}
use Rattle.ta_core.specs.declared.trans.Trans.{Trans}
use Rattle.ta_clean.specs.Products.{Enters}
use Rattle.ta_clean.proofs.marking.CommonTerms.{IsMarking}
use Rattle.ta_clean.proofs.meeting.product.Product.mark_constants.Given as goal

abbrev pub invariant-loop-left : goal.invariant-loop-left
invariant-loop-left l = IsMarking l.self (λ left next. (right : Trans) × Enters l.self (λ _. ⊥) left right next) l.fn.grid (take l.left-index l.left-items) l.grid

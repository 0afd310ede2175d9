use Rattle.std.proofs.Common.{take}
use Rattle.ta_clean.specs.Tables.{IsMarked}
use Rattle.ta_clean.specs.Products.{Enters}
use Rattle.ta_clean.proofs.marking.CommonTerms.{IsMarking}
use Rattle.ta_clean.proofs.meeting.product.Product.mark_constant.Given as goal

abbrev pub invariant-loop-right : goal.invariant-loop-right
invariant-loop-right l = IsMarking l.self (λ right next. Enters l.self (IsMarked l.fn.grid) l.left right next) l.fn.grid (take l.right-index l.right-items) l.grid

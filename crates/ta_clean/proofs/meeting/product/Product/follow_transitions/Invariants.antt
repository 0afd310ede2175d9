use Rattle.std.proofs.Common.{take}
use Rattle.ta_clean.specs.Tables.{IsMarked}
use Rattle.ta_clean.specs.Products.{EntersBy}
use Rattle.ta_clean.proofs.marking.CommonTerms.{IsMarking}
use Rattle.ta_clean.proofs.meeting.product.Product.follow_transitions.Given as goal

abbrev pub invariant-loop-used : goal.invariant-loop-used
invariant-loop-used l = IsMarking l.self (λ used next. EntersBy l.self (IsMarked l.fn.grid) used l.second next) l.fn.grid (take l.used-index l.used-items) l.grid

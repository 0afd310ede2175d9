use Rattle.std.proofs.Common.{take}
use Rattle.ta_clean.specs.Tables.{IsMarked}
use Rattle.ta_clean.proofs.marking.CommonTerms.{IsMarking, EntersWith}
use Rattle.ta_clean.proofs.meeting.product.Product.follow_use.Given as goal

abbrev pub invariant-loop-other : goal.invariant-loop-other
invariant-loop-other l = IsMarking l.self (λ other next. EntersWith l.self (IsMarked l.fn.grid) l.left other next) l.fn.grid (take l.other-index l.other-items) l.grid

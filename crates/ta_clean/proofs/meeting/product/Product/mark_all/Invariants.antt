use Rattle.std.proofs.Common.{◌≡◌}
use Rattle.ta_clean.specs.Tables.{count_left}
use Rattle.ta_clean.proofs.marking.CommonTerms.{IsFollowing}
use Rattle.ta_clean.proofs.meeting.product.Product.mark_all.Given as goal

abbrev pub invariant-loop-first : goal.invariant-loop-first
invariant-loop-first l = record {
  following : IsFollowing l.self l.grid;
  height : l.grid.height ≡ l.fn.grid.height;
  width : l.grid.width ≡ l.fn.grid.width;
}

abbrev pub decreases-loop-first : goal.decreases-loop-first
decreases-loop-first l = count_left l.grid

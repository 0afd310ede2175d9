use Rattle.std.proofs.Common.{◌∙◌, refl}
use Rattle.reach_rows.proofs.Rows.{passes_more}
use Rattle.reach_rows.proofs.reach.pass.Goals as goal

pub loop-from-preserved : goal.loop-from-preserved
loop-from-preserved c = record {
  passes = passes_more c.args.edges.now c.args.rows.now c.loop-from.rows c.loop-from.from-index c.loop-from.more c.loop-from.invariant.passes _ _ c.requires.below c.loop-from-test.true refl c.join_row-new.new.rows c.join_row-new.result c.join_row-new.ensures.joins;
  wide = c.join_row-new.ensures.wide;
  spare = c.join_row-new.ensures.spare ∙ c.loop-from.invariant.spare;
}

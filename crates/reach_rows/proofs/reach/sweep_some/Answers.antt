use Rattle.std.proofs.Common.{◌∙◌, arith}
use Rattle.reach_rows.proofs.Rows.{reaching_joined}
use Rattle.reach_rows.proofs.reach.sweep_some.Goals as goal

pub loop-from-preserved : goal.loop-from-preserved
loop-from-preserved c =
    let below = c.requires.below c.loop-from.from-index (0, 0) c.loop-from-test.true in
    record {
      reaching = reaching_joined c.args.edges.now c.loop-from.rows c.join_row.new.rows _ _ c.join_row.result c.loop-from.invariant.reaching (c.requires.some c.loop-from.from-index (0, 0) c.loop-from-test.true)
          (omega (arith, below.0, c.loop-from.invariant.long)) (omega (arith, below.1, c.loop-from.invariant.long)) c.join_row.ensures.joins;
      at_most = omega (arith, c.join_row.ensures.joins.at_most, c.loop-from.invariant.at_most);
      long = c.join_row.ensures.joins.long ∙ c.loop-from.invariant.long;
      wide = c.join_row.ensures.wide;
      spare = c.join_row.ensures.spare ∙ c.loop-from.invariant.spare;
    }

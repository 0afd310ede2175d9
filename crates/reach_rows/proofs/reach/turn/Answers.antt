use Rattle.std.proofs.Common.{◌∙◌, map, sym, ap, arith}
use Rattle.std.proofs.lemmas.List.{take_all, length-set}
use Rattle.reach_rows.specs.Paths.{turn_edge}
use Rattle.reach_rows.proofs.Rows.{turn_more}
use Rattle.reach_rows.proofs.reach.turn.Goals as goal

pub loop-place-preserved : goal.loop-place-preserved
loop-place-preserved c = record {
  done = turn_more c.loop-place.turned c.args.edges.now c.loop-place.place (omega (arith, c.loop-place-test.true, c.loop-place.invariant.long)) c.loop-place-test.true c.loop-place.invariant.done;
  long = length-set c.loop-place.turned c.loop-place.place _ ∙ c.loop-place.invariant.long;
}

pub returns : goal.returns
returns c = sym (take_all c.loop-place.place c.loop-place.turned (omega (arith, c.loop-place-test.false, c.loop-place.invariant.long))) ∙ (c.loop-place.invariant.done ∙ ap (map turn_edge) (take_all c.loop-place.place c.args.edges.now c.loop-place-test.false))

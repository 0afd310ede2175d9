use Rattle.std.proofs.Common.{arith, rules}
use Rattle.std.proofs.lemmas.Grind.{common_steps}
use Rattle.tim_io.proofs.KnownBytesLemmas.{appends_further}
use Rattle.tim_io.proofs.whole.write_all.Goals as goal

pub pieces-preserved : goal.pieces-preserved
pieces-preserved g c = record {
  wrote = appends_further c.args.bytes.now c.pieces.at c.in_ok-at.field-0 _ _ _ c.pieces.invariant.wrote c.in_ok-at.ensures.writes;
  within = grind (arith, common_steps);
  later = search rules;
}

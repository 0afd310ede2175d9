use Rattle.std.proofs.Common.{◌++◌, take, arith}
use Rattle.std.proofs.lemmas.Grind.{common_steps}
use Rattle.tim_io.proofs.KnownBytesLemmas.{consumes_more}
use Rattle.tim_io.proofs.whole.read_all.Goals as goal

pub returns-then-is_err-clause-reads : goal.returns-then-is_err-clause-reads
returns-then-is_err-clause-reads g c = (
  c.chunks.bytes.items ++ take c.in-Ok.count c.take.new.buf,
  consumes_more _ _ _ _ _ c.chunks.invariant.taken c.in-Ok.ensures.takes.0,
  grind (arith, common_steps),
)

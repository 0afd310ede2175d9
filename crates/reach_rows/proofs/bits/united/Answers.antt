use Rattle.std.proofs.Common.{arith}
use Rattle.std.proofs.lemmas.Nat.{or_lt}
use Rattle.reach_rows.proofs.bits.united.Goals as goal

pub returns-clause-small : goal.returns-clause-small
returns-clause-small c = or_lt 64 c.args.word c.args.other (omega arith) (omega arith)

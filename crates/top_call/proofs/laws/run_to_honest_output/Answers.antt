use Rattle.std.proofs.Common.{arith}
use Rattle.top_call.proofs.Statuses.{write_fault}
use Rattle.top_call.proofs.laws.run_to_honest_output.Goals as goal

pub returns-clause-no_fault : goal.returns-clause-no_fault
returns-clause-no_fault g c = λ is. let risen = write_fault _ _ _ _ _ _ c.run.result c.run.ensures.ran is in omega (arith, risen)

use Rattle.std.proofs.Common.{arith}
use Rattle.top_call.proofs.Statuses.{read_fault}
use Rattle.top_call.proofs.laws.run_over_honest_files.Goals as goal

pub returns-clause-no_fault : goal.returns-clause-no_fault
returns-clause-no_fault g c = λ is. let risen = read_fault _ _ _ _ _ _ c.run.result c.run.ensures.ran is in omega (arith, risen.2)

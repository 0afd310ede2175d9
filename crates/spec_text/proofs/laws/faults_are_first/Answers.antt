use Rattle.spec_text.proofs.faults.First.{faults_are_first}
use Rattle.spec_text.proofs.laws.faults_are_first.Goals as goal

pub returns : goal.returns
returns c = faults_are_first

use Rattle.cert_text.proofs.uniqueness.OneFault.{one_fault}
use Rattle.cert_text.proofs.laws.texts_have_one_fault.Goals as goal

pub returns : goal.returns
returns c = one_fault

use Rattle.cert_text.proofs.uniqueness.NoFault.{reads_without_fault}
use Rattle.cert_text.proofs.laws.certificates_have_no_fault.Goals as goal

pub returns : goal.returns
returns c = reads_without_fault

use Rattle.spec_text.proofs.faults.Apart.{spelled_has_no_fault}
use Rattle.spec_text.proofs.laws.spelled_texts_have_no_fault.Goals as goal

pub returns : goal.returns
returns c = spelled_has_no_fault

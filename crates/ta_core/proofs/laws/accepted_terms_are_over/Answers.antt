use Rattle.ta_core.proofs.acceptance.Acceptance.{accepted_terms_are_over}
use Rattle.ta_core.proofs.laws.accepted_terms_are_over.Goals as goal

pub returns : goal.returns
returns c = accepted_terms_are_over

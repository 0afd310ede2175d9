use Rattle.ta_core.proofs.acceptance.Acceptance.{accepted_is_safe}
use Rattle.ta_core.proofs.laws.accepted_automata_are_safe.Goals as goal

pub returns : goal.returns
returns c = accepted_is_safe

use Rattle.derive_search.proofs.OneAnswer.{one_answer}
use Rattle.derive_search.proofs.laws.answers_are_one.Goals as goal

pub returns : goal.returns
returns c = one_answer c.derivations_are_chains.ensures

use Rattle.closure_check.proofs.firsts.OneAnswer.{one_answer}
use Rattle.closure_check.proofs.laws.answers_are_one.Goals as goal

pub returns : goal.returns
returns c = one_answer c.closed_automata_have_no_open_pair.ensures.all c.accepted_terms_are_over.ensures

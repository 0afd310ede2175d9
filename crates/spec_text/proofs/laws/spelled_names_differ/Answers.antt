use Rattle.spec_text.proofs.uniqueness.Names.{spelled_names_differ}
use Rattle.spec_text.proofs.laws.spelled_names_differ.Goals as goal

pub returns : goal.returns
returns c = spelled_names_differ c.token_words_law.ensures

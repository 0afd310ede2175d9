use Rattle.ranked_terms.proofs.places.PreorderLaws.{over_is_narrow}
use Rattle.ranked_terms.proofs.texts.ReadLaws.{texts_differ}
use Rattle.ranked_terms.proofs.laws.of_terms_over.Goals as goal

pub returns-clause-texts : goal.returns-clause-texts
returns-clause-texts c = texts_differ

pub returns-clause-narrow : goal.returns-clause-narrow
returns-clause-narrow c = over_is_narrow

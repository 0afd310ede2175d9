use Rattle.ranked_terms.specs.lemmas.TermLaws.{size_node, config_of-injective}
use Rattle.ranked_terms.proofs.SizeLaws.{height_of-le, is_over-kept}
use Rattle.ranked_terms.specs.lemmas.EqLaws.{eq-same, same-eq}
use Rattle.ranked_terms.proofs.laws.of_terms.Goals as goal

pub returns-clause-sizes : goal.returns-clause-sizes
returns-clause-sizes c = size_node

pub returns-clause-heights : goal.returns-clause-heights
returns-clause-heights c = height_of-le

pub returns-clause-stay : goal.returns-clause-stay
returns-clause-stay c = is_over-kept

pub returns-clause-configs : goal.returns-clause-configs
returns-clause-configs c = config_of-injective

pub returns-clause-equal : goal.returns-clause-equal
returns-clause-equal c t u = (eq-same t u, same-eq t u)

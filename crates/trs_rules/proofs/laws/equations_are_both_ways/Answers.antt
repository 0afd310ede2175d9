use Rattle.trs_rules.proofs.chains.ModuloLaws.{sides_are_equal, equal_is_symmetric, equal_is_modulo, leads_is_modulo}
use Rattle.trs_rules.proofs.laws.equations_are_both_ways.Goals as goal

pub returns-clause-sides : goal.returns-clause-sides
returns-clause-sides c = sides_are_equal

pub returns-clause-symmetric : goal.returns-clause-symmetric
returns-clause-symmetric c = equal_is_symmetric

pub returns-clause-equal : goal.returns-clause-equal
returns-clause-equal c = equal_is_modulo

pub returns-clause-rules : goal.returns-clause-rules
returns-clause-rules c = leads_is_modulo

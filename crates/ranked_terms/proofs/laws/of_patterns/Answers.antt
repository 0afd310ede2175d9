use Rattle.ranked_terms.specs.lemmas.InstanceLaws.{instance_of-agree, assigned-agree, instance_of-over}
use Rattle.ranked_terms.specs.lemmas.VariableLaws.{variables_of-distinct, variables_of-occurs, occurrences-in_variables_of, firsts-cons}
use Rattle.ranked_terms.proofs.laws.of_patterns.Goals as goal

pub returns-clause-instances : goal.returns-clause-instances
returns-clause-instances c = instance_of-agree

pub returns-clause-assigned : goal.returns-clause-assigned
returns-clause-assigned c = assigned-agree

pub returns-clause-over : goal.returns-clause-over
returns-clause-over c = instance_of-over

pub returns-clause-variables : goal.returns-clause-variables
returns-clause-variables c = λ p. (variables_of-distinct p, λ v. (variables_of-occurs p v, occurrences-in_variables_of p v))

pub returns-clause-order : goal.returns-clause-order
returns-clause-order c = firsts-cons

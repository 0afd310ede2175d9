use Rattle.std.proofs.Common.{◌≡◌, Some, refl, sym, ap, ◌∙◌}
use Rattle.ranked_terms.specs.Terms.{occurrences, variables_of}
use Rattle.trs_rules.specs.Variables.{first_free}
use Rattle.trs_rules.specs.lemmas.RuleLaws.{linear_from_none, none_from_linear, bound_from_none, none_from_bound}
use Rattle.trs_rules.proofs.patterns.RuleLaws.{no_more}
use Rattle.trs_rules.proofs.rule.Rule.new.Goals as goal

made : goal.invariant_of-result
made c = record {
  left_is_no_variable = λ h. c.in_default.not-Var h.0 h.1;
  left_is_linear = linear_from_none c.args.left (sym c.repeated_variable.ensures ∙ c.in_default-repeated_variable.is);
  right_is_bound = bound_from_none c.args.left c.args.right (sym c.free_variable.ensures ∙ c.in_default-free_variable.is);
  vars_are = c.in-Ok.ensures.ok;
  vars_are_few = no_more c.in-Ok.variables (variables_of c.args.left) c.in-Ok.ensures.ok c.in-Ok.ensures.refused.1;
}

pub invariant_of-result : goal.invariant_of-result
invariant_of-result = made

pub returns-clause-rule : goal.returns-clause-rule
returns-clause-rule c = made c

pub returns-in-Some-clause-free_variable : goal.returns-in-Some-clause-free_variable
returns-in-Some-clause-free_variable c var =
    (λ e. cc, λ h. absurd (let k = none_from_linear c.args.left h.1 in let l = c.in-Some.ensures in cc))

pub returns-in-Some-clause-too_many_variables : goal.returns-in-Some-clause-too_many_variables
returns-in-Some-clause-too_many_variables c =
    (λ e. cc, λ h. absurd (let k = none_from_linear c.args.left h.1 in let l = c.in-Some.ensures in cc))

pub returns-in-Some-free_variable-clause-free_variable : goal.returns-in-Some-free_variable-clause-free_variable
returns-in-Some-free_variable-clause-free_variable c var =
    let found : first_free (occurrences c.args.left) (occurrences c.args.right) ≡ Some c.in-Some-free_variable.var = sym c.in-Some-free_variable.ensures in (
      (λ e. (
        λ h. c.in_default.not-Var h.0 h.1,
        linear_from_none c.args.left (sym c.repeated_variable.ensures ∙ c.in_default-repeated_variable.is),
        let same : c.in-Some-free_variable.var ≡ var = cc in found ∙ ap Some same,
      )),
      λ h. let l = h.2 in let same : c.in-Some-free_variable.var ≡ var = cc in cc,
    )

pub returns-in-Some-free_variable-clause-too_many_variables : goal.returns-in-Some-free_variable-clause-too_many_variables
returns-in-Some-free_variable-clause-too_many_variables c =
    (λ e. cc, λ h. absurd (let k = none_from_bound c.args.left c.args.right h.2 in let l = c.in-Some-free_variable.ensures in cc))

pub returns-in_default-of-clause-too_many_variables : goal.returns-in_default-of-clause-too_many_variables
returns-in_default-of-clause-too_many_variables c = (
  λ e. (
    λ h. c.in_default.not-Var h.0 h.1,
    linear_from_none c.args.left (sym c.repeated_variable.ensures ∙ c.in_default-repeated_variable.is),
    bound_from_none c.args.left c.args.right (sym c.free_variable.ensures ∙ c.in_default-free_variable.is),
    c.in_default-of.ensures.refused.0 refl,
  ),
  λ h. refl,
)

use Rattle.std.proofs.Common.{rules, refl, ap, subst, fold, ◌<◌, length}
use Rattle.ranked_terms.specs.Terms.{occurrences, with_variable}
use Rattle.trs_rules.proofs.patterns.VariableLaws.{both_over_full}
use Rattle.trs_rules.proofs.variables.Variables.of_both.Goals as goal

pub returns-in_err-add_all-clause-refused : goal.returns-in_err-add_all-clause-refused
returns-in_err-add_all-clause-refused c =
    let h = both_over_full (occurrences c.args.left.now) (occurrences c.args.right.now) (subst (λ vs. 16 < length vs) (ap (λ vs. fold with_variable vs (occurrences c.args.left.now)) c.new-variables.ensures) (c.in_err-add_all.ensures.refused.0 refl)) in
    (λ e. h, λ e. search rules)

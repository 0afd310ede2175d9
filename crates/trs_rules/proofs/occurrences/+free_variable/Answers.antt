use Rattle.std.proofs.Common.{not, ap, sym, ◌∙◌}
use Rattle.ranked_terms.specs.Terms.{occurrences}
use Rattle.trs_rules.specs.Variables.{is_in}
use Rattle.ranked_terms.specs.lemmas.TermLaws.{occurrences_var}
use Rattle.trs_rules.proofs.patterns.RuleLaws.{bound_one, free_alone}
use Rattle.trs_rules.proofs.patterns.VariableLaws.{found_here, found_later}
use Rattle.trs_rules.proofs.occurrences.+free_variable.Goals as goal

pub returns-in-Some : goal.returns-in-Some
returns-in-Some t c =
    found_here (λ v. not (is_in (occurrences c.args.binder.now) v)) c.as_slice-arg-items.result.now c.loop-arg.arg-index c.arg-item.result c.in-Some.v _ c.loop-arg-test.true c.arg-item.is c.in-Some.ensures c.loop-arg.invariant

pub loop-arg-preserved : goal.loop-arg-preserved
loop-arg-preserved t c =
    found_later (λ v. not (is_in (occurrences c.args.binder.now) v)) c.as_slice-arg-items.result.now c.loop-arg.arg-index c.arg-item.result _ c.loop-arg-test.true c.arg-item.is (sym c.in_default.is ∙ c.free_variable.ensures) c.loop-arg.invariant

pub returns-then-is_some : goal.returns-then-is_some
returns-then-is_some t c =
    bound_one (occurrences c.args.binder.now) (occurrences c.args.pattern.now) c.in-Var.v c.first_of.result (ap occurrences c.in-Var.is ∙ occurrences_var c.in-Var.v) c.first_of.ensures (sym c.is_some.ensures ∙ c.if-is_some.true)

pub returns-else-is_some : goal.returns-else-is_some
returns-else-is_some t c =
    free_alone (occurrences c.args.binder.now) (occurrences c.args.pattern.now) c.in-Var.v c.first_of.result (ap occurrences c.in-Var.is ∙ occurrences_var c.in-Var.v) c.first_of.ensures (sym c.is_some.ensures ∙ c.if-is_some.false)

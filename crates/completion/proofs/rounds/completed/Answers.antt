use Rattle.std.proofs.Common.{sym, subst, ◌∙◌}
use Rattle.ta_core.specs.declared.spec.Spec.{Spec}
use Rattle.completion.specs.Stages.{Ends}
use Rattle.completion.specs.Standing.{Reaches}
use Rattle.completion.proofs.Passing.{reached_first}
use Rattle.completion.proofs.rounds.completed.Goals as goal

pub end_of-requires : goal.end_of-requires
end_of-requires c =
    let first = reached_first c.in_ok-core.core c.args.spec.now c.args.options c.in_ok-core.ensures in
    subst (λ (s : Spec). Reaches s c.args.options c.in_ok-core.core 0) (sym first.same_spec) first

pub returns-clause-same : goal.returns-clause-same
returns-clause-same c =
    let first = reached_first c.in_ok-core.core c.args.spec.now c.args.options c.in_ok-core.ensures in
    let same = c.end_of.ensures.same in
    (same.0 ∙ first.same_spec, same.1 ∙ first.same_options)

pub returns-clause-ends : goal.returns-clause-ends
returns-clause-ends c =
    let first = reached_first c.in_ok-core.core c.args.spec.now c.args.options c.in_ok-core.ensures in
    subst (λ (s : Spec). Ends s c.args.options c.end_of.new.core.automaton c.end_of.new.core.places c.in_ok-end.end) first.same_spec c.in_ok-end.ensures.ends

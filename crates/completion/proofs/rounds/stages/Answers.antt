use Rattle.std.proofs.Common.{take, All, subst}
use Rattle.trs_rules.specs.Rules.{IsRule}
use Rattle.ta_core.specs.TreeAutomaton.{TreeAutomaton, IsSound}
use Rattle.ta_core.specs.Acceptance.{IsContained}
use Rattle.ta_core.specs.declared.spec.Spec.{Spec}
use Rattle.completion.proofs.Passing.{closed_end}
use Rattle.completion.proofs.rounds.stages.Goals as goal

pub returns-clause-accepted : goal.returns-clause-accepted
returns-clause-accepted c = λ i is.
    let core = c.in_ok-core.core in
    let contained = subst (λ (s : Spec). IsContained s.initial core.automaton (take s.initial.next core.places)) c.in_ok-core.ensures.same.0 c.automaton.ensures.contained in
    closed_end c.args.spec.now c.args.options core.automaton core.places c.in_ok-core.end i c.in_ok-core.ensures.ends is contained

pub returns-clause-safe : goal.returns-clause-safe
returns-clause-safe c = λ i is.
    let core = c.in_ok-core.core in
    let spec = c.args.spec.now in
    let sound = subst (λ (A : TreeAutomaton). IsSound A) c.automaton.ensures.value c.states.ensures.sound in
    c.accepted_automata_are_safe.ensures spec core.automaton (take spec.initial.next core.places) sound (subst (All IsRule) c.as_slice.ensures c.each_is_rule.ensures) (returns-clause-accepted c i is)

use Rattle.std.proofs.Common.{All, subst}
use Rattle.std.proofs.lemmas.Result.{IfOk-weaker}
use Rattle.trs_rules.specs.Rules.{IsRule}
use Rattle.ta_core.specs.TreeAutomaton.{IsKept}
use Rattle.ta_core.specs.declared.spec.Spec.{Spec}
use Rattle.completion.specs.Standing.{HasPlaces}
use Rattle.verdicts.specs.Answers.{IsAnswer, IsInOrder, Tells}
use Rattle.verdicts.proofs.Claims.{answered}
use Rattle.verdicts.proofs.completing.completed.Goals as goal

pub returns : goal.returns
returns c =
    let spec = c.args.spec.now in
    let options = c.args.options in
    let core = c.in_ok-core.core in
    let end = c.in_ok-core.end in
    let are = subst (All IsRule) c.as_slice.ensures c.each_is_rule.ensures in
    let kept = subst IsKept c.automaton.ensures.value c.is_in_order.ensures.kept in
    let order = subst IsInOrder c.automaton.ensures.value c.is_in_order.ensures.order in
    let places = subst (λ (s : Spec). HasPlaces s core.automaton core.places) c.in_ok-core.ensures.same.0 c.map.ensures.places in
    IfOk-weaker c.told.result (Tells spec c.args.search core.automaton core.places end) (IsAnswer spec options)
    (answered c.contained_automata_keep_runs.ensures.accepted c.closed_automata_accept_what_is_reached.ensures.accepts spec options are c.args.search c.requires.searched core.automaton core.places kept order places
    end c.in_ok-core.ensures.ends c.in_ok-core.ensures.accepted c.in_ok-core.ensures.safe)
    c.told.ensures

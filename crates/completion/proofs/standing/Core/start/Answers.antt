use Rattle.std.proofs.Common.{◌≡◌, ap, ◌∙◌}
use Rattle.ta_core.specs.TreeAutomaton.{TreeAutomaton}
use Rattle.eq_merge.specs.Quotients.{apart}
use Rattle.completion.specs.Stages.{started}
use Rattle.completion.proofs.Carrying.{first_states, first_stands}
use Rattle.completion.proofs.standing.Core.start.Goals as goal

pub invariant_of-result : goal.invariant_of-result
invariant_of-result c =
    let spec = c.args.spec.now in
    let is = c.in_ok-automaton.ensures in
    let places : c.in_ok-map.map ≡ apart (started spec).next = c.in_ok-map.ensures ∙ (c.states.ensures.value ∙ (ap (λ (A : TreeAutomaton). A.states) is ∙ first_states spec)) in
    first_stands (record { spec = spec; options = c.args.options; automaton = c.in_ok-automaton.automaton; places = c.in_ok-map.map }) is places c.requires

pub returns : goal.returns
returns c =
    let spec = c.args.spec.now in
    let is = c.in_ok-automaton.ensures in
    let places : c.in_ok-map.map ≡ apart (started spec).next = c.in_ok-map.ensures ∙ (c.states.ensures.value ∙ (ap (λ (A : TreeAutomaton). A.states) is ∙ first_states spec)) in
    λ i. record { spec = spec; options = c.args.options; automaton = is i; places = places i }

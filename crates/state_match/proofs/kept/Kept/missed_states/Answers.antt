use Rattle.std.proofs.Common.{◌↔◌, ℕ, Contains, subst}
use Rattle.std.proofs.lemmas.Result.{IfOk-weaker}
use Rattle.ranked_terms.specs.Terms.{assigned}
use Rattle.ta_core.specs.Closure.{state_in}
use Rattle.ta_core.specs.Runs.{Runs}
use Rattle.state_match.specs.Sides.{Side, side_of}
use Rattle.state_match.proofs.members.Outside.{missed_by}
use Rattle.state_match.proofs.members.Kepts.{kept_on, states_are}
use Rattle.state_match.proofs.kept.Kept.missed_states.Goals as goal

pub invariant_of-self-2 : goal.invariant_of-self-2
invariant_of-self-2 c =
    let side : Side = side_of c.self.inside.matcher.now c.self.inside.vars.now c.self.inside.pattern.now in
    kept_on side c.self.inside.nodes.items c.self.inside.values.items c.renew.new.values.items c.self.inside.is_known c.self.inside.last.items c.args.assignment.now c.staying-staying.result c.self.invariant
    c.tabled.result.now c.tabled.ensures c.as_slice-2.result.now c.as_slice-2.ensures.value c.as_slice.result.now c.as_slice.ensures.value c.staying-staying.ensures c.in_ok-renew.ensures.exact c.in_ok-renew.ensures.long
    c.in_ok-self-inside.field-0.items c.in_ok-self-inside.ensures

pub returns-clause-members : goal.returns-clause-members
returns-clause-members c =
    let side : Side = side_of c.self.inside.matcher.now c.self.inside.vars.now c.self.inside.pattern.now in
    let is = states_are side c.self.inside.nodes.items c.self.inside.values.items c.renew.new.values.items c.self.inside.is_known c.self.inside.last.items c.args.assignment.now c.staying-staying.result c.self.invariant
    c.tabled.result.now c.tabled.ensures c.as_slice-2.result.now c.as_slice-2.ensures.value c.as_slice.result.now c.as_slice.ensures.value c.staying-staying.ensures c.in_ok-renew.ensures.exact c.in_ok-renew.ensures.long
    c.as_slice-3.result.now c.as_slice-3.ensures.value c.last_of.result.now c.last_of.ensures in
    IfOk-weaker c.outside.result _ (λ missed. (q : ℕ) → Contains missed.items q ↔ (Contains c.args.states.now q × (Runs c.args.self.now.automaton (assigned (state_in c.args.self.now.vars c.args.assignment.now) c.args.self.now.pattern) q → ⊥)))
    (λ missed exact q. subst (λ (s : Side). Contains missed.items q ↔ (Contains c.args.states.now q × (Runs s.automaton (assigned (state_in s.vars c.args.assignment.now) s.pattern) q → ⊥))) c.self.view_is
    (missed_by (exact q) (is q))) c.outside.ensures.members

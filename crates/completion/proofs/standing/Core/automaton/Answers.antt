use Rattle.std.proofs.Common.{take, subst}
use Rattle.ta_core.specs.Acceptance.{IsContained}
use Rattle.completion.specs.Standing.{Standing}
use Rattle.completion.proofs.Carrying.{contained}
use Rattle.completion.proofs.standing.Core.automaton.Goals as goal

pub returns-clause-contained : goal.returns-clause-contained
returns-clause-contained c =
    let s : Standing = record { spec = c.self.inside.spec.now; options = c.self.inside.options; automaton = c.self.inside.automaton; places = c.self.inside.map } in
    subst (λ (s : Standing). IsContained s.spec.initial s.automaton (take s.spec.initial.next s.places)) c.self.view_is (contained s c.self.invariant c.states.ensures.sound)

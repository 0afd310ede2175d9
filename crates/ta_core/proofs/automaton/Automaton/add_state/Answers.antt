use Rattle.std.proofs.Common.{◌≡◌, ◌∷◌, ◌++◌, [], ◌∙◌, arith}
use Rattle.list_laws.proofs.Inserting.{insert_last}
use Rattle.ta_core.proofs.Soundness.{sound_more}
use Rattle.ta_core.proofs.automaton.Automaton.add_state.Goals as goal

pub invariant_of-self-2 : goal.invariant_of-self-2
invariant_of-self-2 c =
    let i = c.self.inside in
    let last : c.insert.new.self ≡ i.states ++ i.next ∷ [] = c.in_ok-insert.ensures.ok ∙ insert_last i.states i.next c.self.invariant.sound.below in
    rw last (record {
      sound = sound_more (record { states = i.states; next = i.next; finals = i.finals; trans = i.trans; eps = i.eps }) c.self.invariant.sound;
      few = omega (arith, c.self.invariant.few, c.if-self-eq-MAX_STATES.false);
    })

pub returns-clause-ok : goal.returns-clause-ok
returns-clause-ok c =
    let i = c.self.inside in
    let last : c.insert.new.self ≡ i.states ++ i.next ∷ [] = c.in_ok-insert.ensures.ok ∙ insert_last i.states i.next c.self.invariant.sound.below in
    rw (last, ← c.self.view_is)

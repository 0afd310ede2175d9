use Rattle.ta_core.proofs.Soundness.{sound_without}
use Rattle.ta_core.proofs.automaton.Automaton.without_eps.Goals as goal

pub invariant_of-result : goal.invariant_of-result
invariant_of-result c =
    record {
      sound = sound_without (record { states = c.self.inside.states; next = c.self.inside.next; finals = c.self.inside.finals; trans = c.self.inside.trans; eps = c.self.inside.eps }) c.self.invariant.sound
          c.in_ok-copy.field-0 c.in_ok-copy-2.field-0 c.in_ok-copy-3.field-0 c.new.result c.in_ok-copy.ensures c.in_ok-copy-2.ensures c.in_ok-copy-3.ensures c.new.ensures;
      few = c.self.invariant.few;
    }

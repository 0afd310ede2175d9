use Rattle.std.proofs.Common.{ap}
use Rattle.std.specs.List.{Contains}
use Rattle.ta_core.specs.TreeAutomaton.{TreeAutomaton}
use Rattle.list_laws.proofs.Members.{all_after}
use Rattle.ta_core.proofs.automaton.Automaton.set_all_final.Goals as goal

pub invariant_of-self : goal.invariant_of-self
invariant_of-self c =
    let i = c.self.inside in
    let e = c.add_all.ensures in
    let states = ap (λ (A : TreeAutomaton). A.states) c.self.view_is in
    record {
      few = c.self.invariant.few;
      sound = record {
        below = c.self.invariant.sound.below;
        finals = all_after (Contains i.states) i.finals c.into_vec.result.items c.add_all.new.self c.add_all.result e.members e.err c.self.invariant.sound.finals (rw (states, c.into_vec.ensures) c.requires);
        trans = c.self.invariant.sound.trans;
        eps = c.self.invariant.sound.eps;
      };
    }

pub returns-clause-members : goal.returns-clause-members
returns-clause-members c = rw (← c.into_vec.ensures, ← c.self.view_is) c.add_all.ensures.members

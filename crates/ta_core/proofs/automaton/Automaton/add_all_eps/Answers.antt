use Rattle.std.proofs.Common.{ap}
use Rattle.ta_core.specs.TreeAutomaton.{TreeAutomaton, IsEpsOf}
use Rattle.list_laws.proofs.Members.{all_after}
use Rattle.ta_core.specs.lemmas.Orders.{pair_exact}
use Rattle.ta_core.proofs.automaton.Automaton.add_all_eps.Goals as goal

pub add_all-requires : goal.add_all-requires
add_all-requires c = pair_exact

pub invariant_of-self : goal.invariant_of-self
invariant_of-self c =
    let i = c.self.inside in
    let e = c.add_all.ensures in
    let states = ap (λ (A : TreeAutomaton). A.states) c.self.view_is in
    record {
      few = c.self.invariant.few;
      sound = record {
        below = c.self.invariant.sound.below;
        finals = c.self.invariant.sound.finals;
        trans = c.self.invariant.sound.trans;
        eps = all_after (IsEpsOf i.states) i.eps c.into_vec.result.items c.add_all.new.self c.add_all.result e.members e.err c.self.invariant.sound.eps (rw (states, c.into_vec.ensures) c.requires);
      };
    }

pub returns-clause-members : goal.returns-clause-members
returns-clause-members c = rw (← c.into_vec.ensures, ← c.self.view_is) c.add_all.ensures.members

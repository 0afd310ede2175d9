use Rattle.std.proofs.Common.{◌∷◌, [], ap}
use Rattle.std.specs.List.{Contains}
use Rattle.std.proofs.lemmas.Cmp.{nat_cmp_total}
use Rattle.std.proofs.lemmas.Map.Lookups.{exact_unsigned}
use Rattle.ta_core.specs.TreeAutomaton.{TreeAutomaton}
use Rattle.list_laws.proofs.Members.{all_after, all_one}
use Rattle.list_laws.proofs.Inserting.{union_after, new_after}
use Rattle.ta_core.proofs.automaton.Automaton.set_final.Goals as goal

pub invariant_of-self : goal.invariant_of-self
invariant_of-self c =
    let i = c.self.inside in
    let e = c.insert.ensures in
    let states = ap (λ (A : TreeAutomaton). A.states) c.self.view_is in
    record {
      few = c.self.invariant.few;
      sound = record {
        below = c.self.invariant.sound.below;
        finals = all_after (Contains i.states) i.finals (c.args.q ∷ []) c.insert.new.self c.insert.result (union_after nat_cmp_total exact_unsigned i.finals c.insert.new.self c.args.q c.insert.result e.ok) e.err c.self.invariant.sound.finals (all_one (Contains i.states) c.args.q (rw states c.requires));
        trans = c.self.invariant.sound.trans;
        eps = c.self.invariant.sound.eps;
      };
    }

pub returns-clause-new : goal.returns-clause-new
returns-clause-new c = rw (← c.self.view_is) (new_after nat_cmp_total exact_unsigned c.self.inside.finals c.args.q c.insert.result c.insert.ensures.new)

pub returns-clause-members : goal.returns-clause-members
returns-clause-members c = rw (← c.self.view_is) (union_after nat_cmp_total exact_unsigned c.self.inside.finals c.insert.new.self c.args.q c.insert.result c.insert.ensures.ok)

use Rattle.std.proofs.Common.{◌∷◌, [], ap}
use Rattle.ta_core.specs.TreeAutomaton.{TreeAutomaton, IsTransOf, trans_of}
use Rattle.list_laws.proofs.Members.{all_after, all_one}
use Rattle.list_laws.proofs.Inserting.{union_after, new_after}
use Rattle.ta_core.specs.lemmas.Orders.{trans_total, trans_exact}
use Rattle.ta_core.proofs.automaton.Automaton.add_trans.Goals as goal

pub invariant_of-self : goal.invariant_of-self
invariant_of-self c =
    let i = c.self.inside in
    let e = c.insert.ensures in
    let states = ap (λ (A : TreeAutomaton). A.states) c.self.view_is in
    let t = trans_of c.args.sym c.in_ok-args.args c.args.to in
    let sound : IsTransOf i.states t = record { args = rw (states, c.in_ok-args.ensures) c.requires.args; to = rw states c.requires.to } in
    record {
      few = c.self.invariant.few;
      sound = record {
        below = c.self.invariant.sound.below;
        finals = c.self.invariant.sound.finals;
        trans = all_after (IsTransOf i.states) i.trans (t ∷ []) c.insert.new.self c.insert.result (union_after trans_total trans_exact i.trans c.insert.new.self t c.insert.result e.ok) e.err c.self.invariant.sound.trans (all_one (IsTransOf i.states) t sound);
        eps = c.self.invariant.sound.eps;
      };
    }

pub returns-clause-new : goal.returns-clause-new
returns-clause-new c =
    rw (← c.in_ok-args.ensures, ← c.self.view_is)
    (new_after trans_total trans_exact c.self.inside.trans (trans_of c.args.sym c.in_ok-args.args c.args.to) c.insert.result c.insert.ensures.new)

pub returns-clause-members : goal.returns-clause-members
returns-clause-members c =
    rw (← c.in_ok-args.ensures, ← c.self.view_is)
    (union_after trans_total trans_exact c.self.inside.trans c.insert.new.self (trans_of c.args.sym c.in_ok-args.args c.args.to) c.insert.result c.insert.ensures.ok)

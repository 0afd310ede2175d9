use Rattle.std.proofs.Common.{ℕ, ◌∷◌, [], ap, arith}
use Rattle.ta_core.specs.TreeAutomaton.{TreeAutomaton, IsEpsOf}
use Rattle.list_laws.proofs.Members.{all_after, all_one}
use Rattle.list_laws.proofs.Inserting.{union_after, new_after}
use Rattle.ta_core.specs.lemmas.Orders.{pair_total, pair_exact}
use Rattle.ta_core.proofs.automaton.Automaton.add_eps.Goals as goal

pub invariant_of-self : goal.invariant_of-self
invariant_of-self c =
    let i = c.self.inside in
    let e = c.insert.ensures in
    let states = ap (λ (A : TreeAutomaton). A.states) c.self.view_is in
    let pair : ℕ × ℕ = (c.args.from, c.args.to) in
    let sound : IsEpsOf i.states pair = record { from = rw states c.requires.from; to = rw states c.requires.to; moves = λ same. omega (arith, c.if-from-to.false) } in
    record {
      few = c.self.invariant.few;
      sound = record {
        below = c.self.invariant.sound.below;
        finals = c.self.invariant.sound.finals;
        trans = c.self.invariant.sound.trans;
        eps = all_after (IsEpsOf i.states) i.eps (pair ∷ []) c.insert.new.self c.insert.result (union_after pair_total pair_exact i.eps c.insert.new.self pair c.insert.result e.ok) e.err c.self.invariant.sound.eps (all_one (IsEpsOf i.states) pair sound);
      };
    }

pub returns-clause-new : goal.returns-clause-new
returns-clause-new c ne = rw (← c.self.view_is) (new_after pair_total pair_exact c.self.inside.eps (c.args.from, c.args.to) c.insert.result c.insert.ensures.new)

pub returns-clause-members : goal.returns-clause-members
returns-clause-members c ne = rw (← c.self.view_is) (union_after pair_total pair_exact c.self.inside.eps c.insert.new.self (c.args.from, c.args.to) c.insert.result c.insert.ensures.ok)

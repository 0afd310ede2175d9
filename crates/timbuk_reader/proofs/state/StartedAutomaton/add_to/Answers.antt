use Rattle.std.proofs.Common.{All, Contains, ap, sym, subst, ◌∙◌}
use Rattle.ta_core.specs.TreeAutomaton.{TreeAutomaton, IsTransOf, IsEpsOf}
use Rattle.timbuk_reader.specs.View.{started}
use Rattle.timbuk_reader.proofs.keeping.Automata.{states_numbered, trans_numbered, moves_numbered, is_automaton_if}
use Rattle.timbuk_reader.proofs.state.StartedAutomaton.add_to.Goals as goal

pub set_all_final-requires : goal.set_all_final-requires
set_all_final-requires c = subst (λ l. All (Contains l) c.args.self.finals) (sym (ap (λ (E : TreeAutomaton). E.states) c.requires.bare)) (states_numbered c.args.automaton.now.next c.args.self.finals c.requires.finals)

pub add_all_trans-requires : goal.add_all_trans-requires
add_all_trans-requires c =
    subst (λ l. All (IsTransOf l) c.args.self.trans) (sym (ap (λ (E : TreeAutomaton). E.states) c.in_ok-set_all_final.ensures.rest ∙ ap (λ (E : TreeAutomaton). E.states) c.requires.bare)) (trans_numbered c.args.automaton.now.next c.args.self.trans c.requires.trans)

pub add_all_eps-requires : goal.add_all_eps-requires
add_all_eps-requires c =
    let states = ap (λ (E : TreeAutomaton). E.states) c.in_ok-add_all_trans.ensures.rest ∙ ap (λ (E : TreeAutomaton). E.states) c.in_ok-set_all_final.ensures.rest ∙ ap (λ (E : TreeAutomaton). E.states) c.requires.bare in
    subst (λ l. All (IsEpsOf l) c.in_ok-moves.moves) (sym states)
    (rw (c.in_ok-moves.ensures, c.as_slice.ensures) (moves_numbered c.args.automaton.now.next c.args.self.eps c.requires.eps))

pub returns : goal.returns
returns c =
    let n = c.args.automaton.now.next in
    let A = c.args.automaton.now in
    let D = c.add_all_eps.new.self in
    let finals = c.in_ok-set_all_final.ensures in
    let trans = c.in_ok-add_all_trans.ensures in
    let eps = c.add_all_eps.ensures in
    is_automaton_if n (started c.args.self) A c.set_all_final.new.self c.add_all_trans.new.self D c.in_ok-moves.moves c.requires.bare finals.rest trans.rest c.add_all_eps.result eps.rest
    (rw c.as_slice.ensures at c.in_ok-moves.ensures) finals.members finals.sorted trans.members trans.sorted eps.members eps.sorted

use Rattle.std.proofs.Common.{◌≡◌, ℕ, true, ap, sym, subst, ◌∙◌}
use Rattle.std.specs.List.{range_with_len}
use Rattle.ta_core.specs.TreeAutomaton.{TreeAutomaton, bare}
use Rattle.timbuk_reader.specs.Kept.{states_are_below, trans_are_below, eps_are_below}
use Rattle.timbuk_reader.specs.View.{started}
use Rattle.spec_text.specs.Spelled.{IsAutomatonOf}
use Rattle.timbuk_reader.proofs.state.StartedAutomaton.into_automaton.Goals as goal

-- the number of the states of an automaton that has states alone
numbered : (A : TreeAutomaton) (count : ℕ) → A ≡ bare count (range_with_len 0 count) → A.next ≡ count
numbered A count e = ap (λ (E : TreeAutomaton). E.next) e

pub add_to-requires-clause-bare : goal.add_to-requires-clause-bare
add_to-requires-clause-bare c =
    let A = c.in_ok-automaton.automaton in
    c.in_ok-automaton.ensures ∙ ap (λ n. bare n (range_with_len 0 n)) (sym (numbered A c.args.count c.in_ok-automaton.ensures))

pub add_to-requires-clause-finals : goal.add_to-requires-clause-finals
add_to-requires-clause-finals c = subst (λ n. states_are_below n c.args.self.finals ≡ true) (sym (numbered c.in_ok-automaton.automaton c.args.count c.in_ok-automaton.ensures)) c.requires.finals

pub add_to-requires-clause-trans : goal.add_to-requires-clause-trans
add_to-requires-clause-trans c = subst (λ n. trans_are_below n c.args.self.trans ≡ true) (sym (numbered c.in_ok-automaton.automaton c.args.count c.in_ok-automaton.ensures)) c.requires.trans

pub add_to-requires-clause-eps : goal.add_to-requires-clause-eps
add_to-requires-clause-eps c = subst (λ n. eps_are_below n c.args.self.eps ≡ true) (sym (numbered c.in_ok-automaton.automaton c.args.count c.in_ok-automaton.ensures)) c.requires.eps

pub returns : goal.returns
returns c = subst (λ n. IsAutomatonOf n (started c.args.self) c.add_to.new.automaton) (numbered c.in_ok-automaton.automaton c.args.count c.in_ok-automaton.ensures) c.in_ok-add_to.ensures

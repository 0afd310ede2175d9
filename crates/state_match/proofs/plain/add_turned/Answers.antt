use Rattle.std.proofs.Common.{[], map, ap, ◌∙◌}
use Rattle.ta_core.specs.TreeAutomaton.{TreeAutomaton}
use Rattle.state_match.specs.Rows.{turn, turn_row}
use Rattle.state_match.proofs.members.JoinLaws.{turned_pairs, turned_trans, reverse_is}
use Rattle.state_match.proofs.plain.add_turned.Goals as goal

pub add_all_eps-requires : goal.add_all_eps-requires
add_all_eps-requires c =
    turned_pairs c.args.automaton.now c.args.reversed.now [] c.in_ok-turned.field-0 c.eps.ensures.sound (c.in_ok-turned.ensures ∙ ap (map turn) c.eps.ensures.value)
    (ap (λ (A : TreeAutomaton). A.states) c.requires)

pub add_all_trans-requires : goal.add_all_trans-requires
add_all_trans-requires c =
    turned_trans c.args.automaton.now c.add_all_eps.new.self c.in_ok-turned_rows.field-0 c.eps.ensures.sound (c.in_ok-turned_rows.ensures ∙ ap (map turn_row) c.trans.ensures.value)
    (ap (λ (A : TreeAutomaton). A.states) c.in_ok-add_all_eps.ensures.rest ∙ (ap (λ (A : TreeAutomaton). A.states) c.requires))

pub returns : goal.returns
returns c =
    reverse_is c.args.automaton.now c.add_all_eps.new.self c.args.reversed.now c.add_all_trans.new.self c.in_ok-turned.field-0 c.in_ok-turned_rows.field-0 (c.in_ok-turned.ensures ∙ ap (map turn) c.eps.ensures.value)
    (c.in_ok-turned_rows.ensures ∙ ap (map turn_row) c.trans.ensures.value)
    c.requires c.in_ok-add_all_eps.ensures.members c.in_ok-add_all_eps.ensures.rest c.in_ok-add_all_trans.ensures.members c.in_ok-add_all_trans.ensures.rest

use Rattle.std.proofs.Common.{◌≡◌, false, List, subst, ap, ◌∙◌}
use Rattle.indexmap.proofs.MapLemmas.{OnOk-map}
use Rattle.spec_text.specs.Declarations.{Text}
use Rattle.spec_text.specs.Rows.{is_in}
use Rattle.timbuk_reader.specs.View.{state_of, started}
use Rattle.timbuk_reader.proofs.parsing.Names.{no_position}
use Rattle.timbuk_reader.proofs.keeping.Automaton.{longer, below_grows, eps_grow, trans_grow, states_of_second, second_added, first_added}
use Rattle.timbuk_reader.proofs.state.Reader.add_own_state.Goals as goal

pub add-requires-clause-new : goal.add-requires-clause-new
add-requires-clause-new c =
    let r = c.args.self.now in
    no_position r.second.states c.args.name.now (subst (λ (names : List Text). is_in names c.args.name.now ≡ false) (states_of_second r c.if-self-eq2.true) c.requires.new)

pub returns-else-self-eq2-clause-ok : goal.returns-else-self-eq2-clause-ok
returns-else-self-eq2-clause-ok c =
    OnOk-map c.add_initial_state.result _ _ (λ h. h ∙ first_added c.args.self.now c.args.name.now c.if-self-eq2.false) c.add_initial_state.ensures.ok

pub invariant_of-self-clause-second_finals : goal.invariant_of-self-clause-second_finals
invariant_of-self-clause-second_finals c = below_grows _ _ _ (longer c.add.result _ _ _ c.add.ensures.ok c.add.ensures.err) c.args.self.now.second_finals

pub invariant_of-self-clause-second_trans : goal.invariant_of-self-clause-second_trans
invariant_of-self-clause-second_trans c = trans_grow _ _ _ (longer c.add.result _ _ _ c.add.ensures.ok c.add.ensures.err) c.args.self.now.second_trans

pub invariant_of-self-clause-second_eps : goal.invariant_of-self-clause-second_eps
invariant_of-self-clause-second_eps c = eps_grow _ _ _ (longer c.add.result _ _ _ c.add.ensures.ok c.add.ensures.err) c.args.self.now.second_eps

pub returns-then-self-eq2-clause-ok : goal.returns-then-self-eq2-clause-ok
returns-then-self-eq2-clause-ok c =
    let r = c.args.self.now in
    OnOk-map c.add.result _ _ (λ h. ap (λ (names : List Text). record (state_of r) { second = record (started r.second) { states = names } }) h ∙ second_added r c.args.name.now c.if-self-eq2.true) c.add.ensures.ok

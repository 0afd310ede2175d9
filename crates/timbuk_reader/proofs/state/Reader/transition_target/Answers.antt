use Rattle.std.proofs.Common.{ℕ, List, arith, ap, ◌∙◌}
use Rattle.std.proofs.lemmas.Grind.{common_steps}
use Rattle.ta_core.specs.TreeAutomaton.{trans_of}
use Rattle.timbuk_grammar.specs.Grammar.{one, name}
use Rattle.timbuk_grammar.specs.declared.terminal.Role.TheVariants as role
use Rattle.timbuk_grammar.specs.declared.terminal.Terminal.TheVariants as terminal
use Rattle.spec_text.specs.Declarations.{symbol_head}
use Rattle.timbuk_reader.specs.View.{closed, state_of}
use Rattle.timbuk_reader.specs.Reads.{Stops}
use Rattle.timbuk_reader.specs.AutomatonReads.{headed, target, with_trans}
use Rattle.timbuk_reader.proofs.parsing.Parts.{then_advances, later_stops}
use Rattle.timbuk_reader.proofs.parsing.Tokens.{mark_advances}
use Rattle.timbuk_reader.proofs.parsing.Automaton.{headed_calm, trans_advances, target_stops}
use Rattle.timbuk_reader.proofs.state.Reader.transition_target.Goals as goal

pub returns-in_err-to-clause-reads : goal.returns-in_err-to-clause-reads
returns-in_err-to-clause-reads c =
    let o = headed (symbol_head c.args.sym) c.args.args in
    let r = c.args.self.now in
    let m = c.mark.new.self in
    let e = c.in_err-to.field-0.0 in
    let stops : Stops target o r e =
    later_stops (one terminal.Arrow) (name role.TransitionTarget) o o r m e
    (mark_advances terminal.Arrow o r m tt (headed_calm (symbol_head c.args.sym) c.args.args) c.in_ok-mark.ensures.takes)
    (target_stops (symbol_head c.args.sym) c.args.args m e c.in_err-to.ensures.err) in
    grind (arith, common_steps)

pub returns-clause-reads : goal.returns-clause-reads
returns-clause-reads c =
    let f = c.args.sym in
    let o = headed (symbol_head f) c.args.args in
    let r = c.args.self.now in
    let m = c.mark.new.self in
    let v = c.state.new.self in
    let u = c.add_transition.new.self in
    then_advances (one terminal.Arrow) (name role.TransitionTarget) o o closed r m u
    (mark_advances terminal.Arrow o r m tt (headed_calm (symbol_head f) c.args.args) c.in_ok-mark.ensures.takes)
    (trans_advances f c.args.args c.in_ok-to.to m v u c.in_ok-to.ensures.ok c.in_ok-add_transition.ensures.left
    (c.in_ok-add_transition.ensures.ok ∙ ap (λ (args : List ℕ). with_trans (trans_of f args c.in_ok-to.to) (state_of v)) (c.in_ok-args.ensures ∙ c.as_slice.ensures)))

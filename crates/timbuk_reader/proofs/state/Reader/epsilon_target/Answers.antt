use Rattle.std.proofs.Common.{arith, []}
use Rattle.std.proofs.lemmas.Grind.{common_steps}
use Rattle.timbuk_grammar.specs.Grammar.{one, name}
use Rattle.timbuk_grammar.specs.declared.terminal.Role.TheVariants as role
use Rattle.timbuk_grammar.specs.declared.terminal.Terminal.TheVariants as terminal
use Rattle.spec_text.specs.Declarations.{state_head}
use Rattle.timbuk_reader.specs.View.{closed}
use Rattle.timbuk_reader.specs.Reads.{Stops}
use Rattle.timbuk_reader.specs.AutomatonReads.{headed, target}
use Rattle.timbuk_reader.proofs.parsing.Parts.{then_advances, later_stops}
use Rattle.timbuk_reader.proofs.parsing.Tokens.{mark_advances}
use Rattle.timbuk_reader.proofs.parsing.Automaton.{headed_calm, epsilon_advances, target_stops}
use Rattle.timbuk_reader.proofs.state.Reader.epsilon_target.Goals as goal

pub returns-clause-reads : goal.returns-clause-reads
returns-clause-reads c =
    let o = headed (state_head c.args.from) [] in
    let r = c.args.self.now in
    let m = c.mark.new.self in
    let u = c.add_epsilon.new.self in
    then_advances (one terminal.Arrow) (name role.TransitionTarget) o o closed r m u
    (mark_advances terminal.Arrow o r m tt (headed_calm (state_head c.args.from) []) c.in_ok-mark.ensures.takes)
    (epsilon_advances c.args.from c.in_ok-to.to m c.state.new.self u c.in_ok-to.ensures.ok c.in_ok-add_epsilon.ensures.left c.in_ok-add_epsilon.ensures.ok)

pub returns-in_err-to-clause-reads : goal.returns-in_err-to-clause-reads
returns-in_err-to-clause-reads c =
    let o = headed (state_head c.args.from) [] in
    let r = c.args.self.now in
    let m = c.mark.new.self in
    let e = c.in_err-to.field-0.0 in
    let stops : Stops target o r e =
    later_stops (one terminal.Arrow) (name role.TransitionTarget) o o r m e
    (mark_advances terminal.Arrow o r m tt (headed_calm (state_head c.args.from) []) c.in_ok-mark.ensures.takes)
    (target_stops (state_head c.args.from) [] m e c.in_err-to.ensures.err) in
    grind (arith, common_steps)

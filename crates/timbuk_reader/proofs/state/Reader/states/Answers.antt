use Rattle.std.proofs.Common.{arith, sym, ◌∙◌}
use Rattle.std.proofs.lemmas.Grind.{common_steps}
use Rattle.timbuk_grammar.specs.Grammar.{many, state}
use Rattle.timbuk_grammar.specs.declared.terminal.Terminal.TheVariants as terminal
use Rattle.timbuk_reader.specs.View.{closed}
use Rattle.timbuk_reader.specs.Reads.{Stops}
use Rattle.timbuk_reader.specs.AutomatonReads.{no_arity}
use Rattle.timbuk_reader.proofs.parsing.Parts.{turns_err, then_head}
use Rattle.timbuk_reader.proofs.state.Reader.states.Goals as goal

pub returns-in_err-declared_state-clause-reads : goal.returns-in_err-declared_state-clause-reads
returns-in_err-declared_state-clause-reads c =
    let p = c.args.role in
    let e = c.in_err-declared_state.field-0.0 in
    let stops : Stops (many (state p)) closed c.args.self.now e =
    turns_err (state p) (terminal.Named p) c.args.self.now c.loop-role.self e c.loop-role.invariant.turns (then_head (terminal.Named p) no_arity) (sym c.sees.ensures.value ∙ c.loop-role-test.true) c.in_err-declared_state.ensures.reads in
    grind (arith, common_steps)

use Rattle.std.proofs.Common.{arith, sym, ◌∙◌}
use Rattle.std.proofs.lemmas.Grind.{common_steps}
use Rattle.timbuk_grammar.specs.Grammar.{many, name}
use Rattle.timbuk_grammar.specs.declared.terminal.Role.TheVariants as role
use Rattle.timbuk_grammar.specs.declared.terminal.Terminal.TheVariants as terminal
use Rattle.timbuk_reader.specs.View.{closed}
use Rattle.timbuk_reader.specs.Reads.{Stops}
use Rattle.timbuk_reader.proofs.parsing.Parts.{turns_err, one_head}
use Rattle.timbuk_reader.proofs.state.Reader.all_vars.Goals as goal

pub returns-in_err-variable_name : goal.returns-in_err-variable_name
returns-in_err-variable_name c =
    let e = c.in_err-variable_name.field-0.0 in
    let stops : Stops (many (name role.Variable)) closed c.args.self.now e =
    turns_err (name role.Variable) (terminal.Named role.Variable) c.args.self.now c.loop-self.self e c.loop-self.invariant (one_head (terminal.Named role.Variable)) (sym c.sees.ensures.value ∙ c.loop-self-test.true) c.in_err-variable_name.ensures.reads in
    grind (arith, common_steps)

use Rattle.std.proofs.Common.{arith, sym, ◌∙◌}
use Rattle.std.proofs.lemmas.Grind.{common_steps}
use Rattle.timbuk_grammar.specs.Grammar.{many, equation, one, ◌then◌, pattern}
use Rattle.timbuk_grammar.specs.declared.terminal.Role.TheVariants as role
use Rattle.timbuk_grammar.specs.declared.terminal.Terminal.TheVariants as terminal
use Rattle.timbuk_reader.specs.View.{closed}
use Rattle.timbuk_reader.specs.Reads.{Stops}
use Rattle.timbuk_reader.proofs.parsing.Parts.{turns_again, turns_stop, turns_err, pattern_then_head, Head}
use Rattle.timbuk_reader.proofs.state.Reader.all_equations.Goals as goal

head : Head equation (terminal.Named role.EquationLeft)
head = pattern_then_head role.EquationLeft (one terminal.Equals then pattern role.EquationRight)

pub returns-in_err-equation-clause-reads : goal.returns-in_err-equation-clause-reads
returns-in_err-equation-clause-reads c =
    let e = c.in_err-equation.field-0.0 in
    let stops : Stops (many equation) closed c.args.self.now e =
    turns_err equation (terminal.Named role.EquationLeft) c.args.self.now c.loop-self.self e c.loop-self.invariant.turns head (sym c.sees.ensures.value ∙ c.loop-self-test.true) c.in_err-equation.ensures.reads in
    grind (arith, common_steps)

pub loop-self-preserved : goal.loop-self-preserved
loop-self-preserved c = record {
  turns = turns_again equation (terminal.Named role.EquationLeft) c.args.self.now c.loop-self.self c.equation.new.self c.loop-self.invariant.turns head (sym c.sees.ensures.value ∙ c.loop-self-test.true) c.in_ok-equation.ensures.reads;
  no_longer = let less = c.in_ok-equation.ensures.shorter in omega arith;
}

pub returns-clause-reads : goal.returns-clause-reads
returns-clause-reads c = turns_stop equation (terminal.Named role.EquationLeft) c.args.self.now c.loop-self.self c.loop-self.invariant.turns head (sym c.sees.ensures.value ∙ c.loop-self-test.false)

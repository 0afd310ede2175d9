use Rattle.std.proofs.Common.{arith, sym, ◌∙◌}
use Rattle.std.proofs.lemmas.Grind.{common_steps}
use Rattle.timbuk_grammar.specs.Grammar.{many, ◌then◌, transition}
use Rattle.timbuk_grammar.specs.declared.terminal.Role.TheVariants as role
use Rattle.timbuk_grammar.specs.declared.terminal.Terminal.TheVariants as terminal
use Rattle.timbuk_reader.specs.View.{closed}
use Rattle.timbuk_reader.specs.Reads.{Stops}
use Rattle.timbuk_reader.specs.AutomatonReads.{head_arguments, target}
use Rattle.timbuk_reader.proofs.parsing.Parts.{turns_err, then_head}
use Rattle.timbuk_reader.proofs.state.Reader.all_transitions.Goals as goal

pub returns-in_err-transition-clause-reads : goal.returns-in_err-transition-clause-reads
returns-in_err-transition-clause-reads c =
    let e = c.in_err-transition.field-0.0 in
    let stops : Stops (many (transition)) closed c.args.self.now e =
    turns_err (transition) (terminal.Named role.TransitionHead) c.args.self.now c.loop-self.self e c.loop-self.invariant.turns (then_head (terminal.Named role.TransitionHead) (head_arguments then target)) (sym c.sees.ensures.value ∙ c.loop-self-test.true) c.in_err-transition.ensures.reads in
    grind (arith, common_steps)

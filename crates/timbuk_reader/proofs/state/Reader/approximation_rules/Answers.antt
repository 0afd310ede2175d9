use Rattle.std.proofs.Common.{arith, sym, ◌∙◌}
use Rattle.std.proofs.lemmas.Grind.{common_steps}
use Rattle.timbuk_grammar.specs.Grammar.{many, approximation_rule}
use Rattle.timbuk_grammar.specs.declared.terminal.Terminal.TheVariants as terminal
use Rattle.timbuk_reader.specs.View.{closed}
use Rattle.timbuk_reader.specs.Reads.{Stops}
use Rattle.timbuk_reader.proofs.parsing.Parts.{turns_err, then_head}
use Rattle.timbuk_reader.proofs.state.Reader.approximation_rules.Goals as goal

pub returns-in_err-approximation_rule-clause-reads : goal.returns-in_err-approximation_rule-clause-reads
returns-in_err-approximation_rule-clause-reads c =
    let e = c.in_err-approximation_rule.field-0.0 in
    let stops : Stops (many approximation_rule) closed c.args.self.now e =
    turns_err approximation_rule terminal.OpenBracket c.args.self.now c.loop-self.self e c.loop-self.invariant.turns (then_head terminal.OpenBracket _) (sym c.sees.ensures.value ∙ c.loop-self-test.true) c.in_err-approximation_rule.ensures.reads in
    grind (arith, common_steps)

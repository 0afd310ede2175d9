use Rattle.timbuk_grammar.specs.Grammar.{name}
use Rattle.timbuk_reader.specs.Reads.{Stops}
use Rattle.std.proofs.lemmas.Grind.{common_steps}
use Rattle.std.proofs.Common.{refl, arith}
use Rattle.timbuk_grammar.specs.declared.terminal.Role.TheVariants as role
use Rattle.timbuk_grammar.specs.declared.terminal.Terminal.TheVariants as terminal
use Rattle.spec_text.specs.Declarations.{adds}
use Rattle.timbuk_reader.specs.View.{closed, state_of}
use Rattle.timbuk_reader.proofs.parsing.Tokens.{word_advances, closed_calm, no_word_stops}
use Rattle.timbuk_reader.proofs.parsing.Names.{declared_new}
use Rattle.timbuk_reader.proofs.state.Reader.title.Goals as goal

pub returns-in_err-word-clause-reads : goal.returns-in_err-word-clause-reads
returns-in_err-word-clause-reads c =
    let e = c.in_err-word.field-0.0 in
    let stops : Stops (name role.Title) closed c.args.self.now e = no_word_stops (terminal.Named role.Title) closed c.args.self.now e tt closed_calm c.in_err-word.ensures.err in
    grind (arith, common_steps)

pub returns-clause-reads : goal.returns-clause-reads
unfolding adds
returns-clause-reads c =
    let r = c.args.self.now in
    let text = c.in_ok-word.field-0.now in
    let stands = c.in_ok-word.ensures.ok in
    word_advances (terminal.Named role.Title) closed closed r c.advance.new.self text c.advance.result.now tt closed_calm stands
    (declared_new role.Title text (state_of r) tt stands.short refl refl) c.advance.ensures.token c.advance.ensures.end c.advance.ensures.state

use Rattle.std.proofs.Common.{sym, ◌∙◌}
use Rattle.timbuk_grammar.specs.Grammar.{vars, name, one, many}
use Rattle.timbuk_grammar.specs.declared.terminal.Role.TheVariants as role
use Rattle.timbuk_grammar.specs.declared.terminal.Terminal.TheVariants as terminal
use Rattle.timbuk_reader.specs.View.{closed}
use Rattle.timbuk_reader.proofs.parsing.Parts.{then_reads, maybe_reads, then_head}
use Rattle.timbuk_reader.proofs.state.Reader.vars.Goals as goal

pub returns : goal.returns
returns c =
    let r = c.args.self.now in
    let u = c.all_vars.new.self in
    maybe_reads vars terminal.Vars closed closed r u c.all_vars.result (then_head terminal.Vars (many (name role.Variable))) (sym c.sees.ensures.value ∙ c.if-not-sees.false)
    (then_reads (one terminal.Vars) (many (name role.Variable)) closed closed closed r c.mark.new.self u c.all_vars.result c.in_ok-mark.ensures.reads c.all_vars.ensures)

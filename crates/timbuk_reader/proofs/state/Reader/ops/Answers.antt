use Rattle.std.proofs.Common.{sym, ◌∙◌}
use Rattle.timbuk_grammar.specs.Grammar.{ops, op, one, many}
use Rattle.timbuk_grammar.specs.declared.terminal.Terminal.TheVariants as terminal
use Rattle.timbuk_reader.specs.View.{closed}
use Rattle.timbuk_reader.proofs.parsing.Parts.{then_reads, maybe_reads, then_head}
use Rattle.timbuk_reader.proofs.state.Reader.ops.Goals as goal

pub returns-clause-reads : goal.returns-clause-reads
returns-clause-reads c =
    let r = c.args.self.now in
    let u = c.all_ops.new.self in
    maybe_reads ops terminal.Ops closed closed r u c.all_ops.result (then_head terminal.Ops (many op)) (sym c.sees.ensures.value ∙ c.if-not-sees.false)
    (then_reads (one terminal.Ops) (many op) closed closed closed r c.mark.new.self u c.all_ops.result c.in_ok-mark.ensures.reads c.all_ops.ensures.reads)

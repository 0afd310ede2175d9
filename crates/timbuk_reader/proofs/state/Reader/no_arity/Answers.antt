use Rattle.std.proofs.Common.{sym, ◌∙◌}
use Rattle.timbuk_grammar.specs.Grammar.{one, ◌then◌}
use Rattle.timbuk_grammar.specs.declared.terminal.Terminal.TheVariants as terminal
use Rattle.timbuk_reader.specs.View.{closed}
use Rattle.timbuk_reader.proofs.parsing.Parts.{then_reads, maybe_reads, then_head}
use Rattle.timbuk_reader.proofs.state.Reader.no_arity.Goals as goal

pub returns-clause-reads : goal.returns-clause-reads
returns-clause-reads c =
    let r = c.args.self.now in
    let u = c.mark-2.new.self in
    maybe_reads (one terminal.Colon then one terminal.Zero) terminal.Colon closed closed r u c.mark-2.result (then_head terminal.Colon (one terminal.Zero)) (sym c.sees.ensures.value ∙ c.if-not-sees.false)
    (then_reads (one terminal.Colon) (one terminal.Zero) closed closed closed r c.mark.new.self u c.mark-2.result c.in_ok-mark.ensures.reads c.mark-2.ensures.reads)

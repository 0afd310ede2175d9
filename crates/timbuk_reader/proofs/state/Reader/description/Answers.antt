use Rattle.std.proofs.Common.{sym, ◌∙◌}
use Rattle.timbuk_grammar.specs.Grammar.{one, many, description}
use Rattle.timbuk_grammar.specs.declared.terminal.Terminal.TheVariants as terminal
use Rattle.timbuk_reader.specs.View.{closed}
use Rattle.timbuk_reader.specs.AutomatonReads.{described}
use Rattle.timbuk_reader.proofs.parsing.Parts.{then_reads, maybe_reads, then_head}
use Rattle.timbuk_reader.proofs.state.Reader.description.Goals as goal

pub returns-clause-reads : goal.returns-clause-reads
returns-clause-reads c =
    let r = c.args.self.now in
    let u = c.all_described.new.self in
    maybe_reads (description) terminal.Description closed closed r u c.all_described.result (then_head terminal.Description (many described)) (sym c.sees.ensures.value ∙ c.if-not-sees.false)
    (then_reads (one terminal.Description) (many described) closed closed closed r c.mark.new.self u c.all_described.result c.in_ok-mark.ensures.reads c.all_described.ensures.reads)

use Rattle.std.proofs.Common.{sym, ◌∙◌}
use Rattle.timbuk_grammar.specs.Grammar.{one, ◌then◌, many, transition}
use Rattle.timbuk_grammar.specs.declared.terminal.Terminal.TheVariants as terminal
use Rattle.timbuk_reader.specs.View.{closed}
use Rattle.timbuk_reader.proofs.parsing.Parts.{then_reads, maybe_reads, then_head}
use Rattle.timbuk_reader.proofs.state.Reader.prior.Goals as goal

pub returns-clause-reads : goal.returns-clause-reads
returns-clause-reads c =
    let r = c.args.self.now in
    let u = c.all_transitions.new.self in
    maybe_reads (one terminal.Prior then many transition) terminal.Prior closed closed r u c.all_transitions.result (then_head terminal.Prior (many transition)) (sym c.sees.ensures.value ∙ c.if-not-sees.false)
    (then_reads (one terminal.Prior) (many transition) closed closed closed r c.mark.new.self u c.all_transitions.result c.in_ok-mark.ensures.reads c.all_transitions.ensures.reads)

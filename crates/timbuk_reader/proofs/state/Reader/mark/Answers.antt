use Rattle.timbuk_reader.specs.View.{closed}
use Rattle.timbuk_reader.proofs.parsing.Tokens.{mark_reads, closed_calm}
use Rattle.timbuk_reader.proofs.state.Reader.mark.Goals as goal

pub returns-clause-reads : goal.returns-clause-reads
returns-clause-reads c = mark_reads c.args.terminal closed c.args.self.now c.take.new.self c.take.result c.requires closed_calm c.take.ensures.takes

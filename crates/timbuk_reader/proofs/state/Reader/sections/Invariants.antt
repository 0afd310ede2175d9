use Rattle.std.proofs.Common.{length}
use Rattle.timbuk_grammar.specs.Grammar.{many, section}
use Rattle.timbuk_reader.specs.Reads.{Turns}
use Rattle.timbuk_reader.proofs.state.Reader.sections.Given as goal

abbrev pub invariant-loop-section : goal.invariant-loop-section
invariant-loop-section l = Turns (many section) l.fn.self (many section) l.self

abbrev pub decreases-loop-section : goal.decreases-loop-section
decreases-loop-section l = length l.self.tokens.now

use Rattle.std.proofs.Common.{length}
use Rattle.timbuk_grammar.specs.Grammar.{many, op}
use Rattle.timbuk_reader.specs.Reads.{Turns, IsFresh}
use Rattle.timbuk_reader.proofs.state.Reader.all_ops.Given as goal

abbrev pub invariant-loop-self : goal.invariant-loop-self
invariant-loop-self l = record { turns : Turns (many op) l.fn.self (many op) l.self; fresh : IsFresh l.self }

abbrev pub decreases-loop-self : goal.decreases-loop-self
decreases-loop-self l = length l.self.tokens.now

use Rattle.std.proofs.Common.{length, ◌≡◌}
use Rattle.timbuk_grammar.specs.Grammar.{many}
use Rattle.timbuk_reader.specs.View.{state_of}
use Rattle.timbuk_reader.specs.Reads.{Turns}
use Rattle.timbuk_reader.specs.AutomatonReads.{NoLonger, described}
use Rattle.timbuk_reader.proofs.state.Reader.all_described.Given as goal

abbrev pub invariant-loop-self : goal.invariant-loop-self
invariant-loop-self l = record { turns : Turns (many described) l.fn.self (many described) l.self; same : state_of l.self ≡ state_of l.fn.self; no_longer : NoLonger l.fn.self l.self }

abbrev pub decreases-loop-self : goal.decreases-loop-self
decreases-loop-self l = length l.self.tokens.now

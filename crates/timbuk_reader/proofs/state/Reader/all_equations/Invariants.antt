use Rattle.std.proofs.Common.{length, ◌≤◌}
use Rattle.timbuk_grammar.specs.Grammar.{many, equation}
use Rattle.timbuk_reader.specs.Reads.{Turns}
use Rattle.timbuk_reader.proofs.state.Reader.all_equations.Given as goal

abbrev pub invariant-loop-self : goal.invariant-loop-self
invariant-loop-self l = record { turns : Turns (many equation) l.fn.self (many equation) l.self; no_longer : length l.self.tokens.now ≤ length l.fn.self.tokens.now }

abbrev pub decreases-loop-self : goal.decreases-loop-self
decreases-loop-self l = length l.self.tokens.now

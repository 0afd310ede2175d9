use Rattle.std.proofs.Common.{length}
use Rattle.timbuk_grammar.specs.Grammar.{many, state}
use Rattle.timbuk_reader.specs.Reads.{Turns}
use Rattle.timbuk_reader.specs.AutomatonReads.{MayDeclare, NoLonger}
use Rattle.timbuk_reader.proofs.state.Reader.states.Given as goal

abbrev pub invariant-loop-role : goal.invariant-loop-role
invariant-loop-role l = record { turns : Turns (many (state l.role)) l.fn.self (many (state l.role)) l.self; declares : MayDeclare l.role l.self; no_longer : NoLonger l.fn.self l.self }

abbrev pub decreases-loop-role : goal.decreases-loop-role
decreases-loop-role l = length l.self.tokens.now

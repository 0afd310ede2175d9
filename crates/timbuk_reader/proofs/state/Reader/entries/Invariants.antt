use Rattle.std.proofs.Common.{length}
use Rattle.timbuk_reader.specs.AutomatonReads.{NoLonger}
use Rattle.timbuk_reader.specs.ApproximationReads.{OnlyEntries}
use Rattle.timbuk_reader.proofs.parsing.ApproximationRules.{Enters}
use Rattle.timbuk_reader.proofs.state.Reader.entries.Given as goal

abbrev pub invariant-loop-self : goal.invariant-loop-self
invariant-loop-self l = record {
  enters : Enters l.form l.fn.self l.self;
  same : OnlyEntries l.fn.self l.self;
  no_longer : NoLonger l.fn.self l.self;
}

abbrev pub decreases-loop-self : goal.decreases-loop-self
decreases-loop-self l = length l.self.tokens.now

use Rattle.std.proofs.Common.{◌≤◌, length}
use Rattle.timbuk_reader.specs.AutomatonReads.{NoLonger}
use Rattle.timbuk_reader.specs.ApproximationReads.{OnlyTokens, IsStarted, SameHead}
use Rattle.timbuk_reader.proofs.parsing.ApproximationRules.{Argues}
use Rattle.timbuk_reader.proofs.state.Reader.entry_arguments.Given as goal

abbrev pub invariant-loop-entry : goal.invariant-loop-entry
invariant-loop-entry l = record {
  argues : Argues l.fn.self l.fn.entry l.entry l.self;
  head : SameHead l.fn.entry l.entry;
  started : IsStarted l.self l.entry;
  room : length l.entry.args ≤ l.entry.arity;
  same : OnlyTokens l.fn.self l.self;
  no_longer : NoLonger l.fn.self l.self;
}

abbrev pub decreases-loop-entry : goal.decreases-loop-entry
decreases-loop-entry l = length l.self.tokens.now

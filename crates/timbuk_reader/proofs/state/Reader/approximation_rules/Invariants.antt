use Rattle.std.proofs.Common.{◌≢◌, length}
use Rattle.timbuk_grammar.specs.Grammar.{many, approximation_rule}
use Rattle.timbuk_reader.specs.Reads.{Turns}
use Rattle.timbuk_reader.specs.AutomatonReads.{NoLonger}
use Rattle.timbuk_reader.proofs.state.Reader.approximation_rules.Given as goal

abbrev pub invariant-loop-self : goal.invariant-loop-self
invariant-loop-self l = record {
  turns : Turns (many approximation_rule) l.fn.self (many approximation_rule) l.self;
  begun : l.self.approximations ≢ 0;
  no_longer : NoLonger l.fn.self l.self;
}

abbrev pub decreases-loop-self : goal.decreases-loop-self
decreases-loop-self l = length l.self.tokens.now

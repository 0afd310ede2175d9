use Rattle.std.proofs.Common.{length, ◌≤◌, ◌<◌}
use Rattle.timbuk_reader.specs.View.{Shorter}
use Rattle.timbuk_reader.specs.Patterns.{Filled, AllFit}
use Rattle.timbuk_reader.proofs.state.Reader.+pattern.Given as goal

abbrev pub decreases-pattern : goal.decreases-pattern
decreases-pattern l = length l.self.now.tokens.now

abbrev pub decreases-arguments : goal.decreases-arguments
decreases-arguments l = length l.self.now.tokens.now

abbrev pub invariant-arguments-loop-role : goal.invariant-arguments-loop-role
invariant-arguments-loop-role l = record {
  few : length l.args ≤ l.arity;
  some : 0 < length l.args;
  shorter : Shorter l.fn.self l.self;
  filled : Filled l.role l.sym l.arity l.depth l.fn.self l.args l.self;
  fits : AllFit l.role l.fn.self l.args l.self;
}

abbrev pub decreases-arguments-loop-role : goal.decreases-arguments-loop-role
decreases-arguments-loop-role l = length l.self.tokens.now

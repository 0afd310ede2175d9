use Rattle.std.proofs.Common.{◌≡◌, ◌≤◌, ◌-◌, length, IsTrue}
use Rattle.timbuk_reader.specs.Kept.{states_are_below}
use Rattle.timbuk_reader.specs.View.{state_of}
use Rattle.timbuk_reader.specs.AutomatonReads.{states_of, NoLonger, SomeArguments}
use Rattle.timbuk_reader.proofs.state.Reader.transition_arguments.Given as goal

abbrev pub invariant-loop-self : goal.invariant-loop-self
invariant-loop-self l = record {
  read : SomeArguments l.arity l.fn.self l.args l.self;
  room : length l.args ≤ l.arity;
  below : IsTrue (states_are_below (length (states_of l.self)) l.args);
  same : state_of l.self ≡ state_of l.fn.self;
  no_longer : NoLonger l.fn.self l.self;
}

abbrev pub decreases-loop-self : goal.decreases-loop-self
decreases-loop-self l = l.arity - length l.args

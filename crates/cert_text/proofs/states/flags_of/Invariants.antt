use Rattle.std.proofs.Common.{◌≡◌, length, take}
use Rattle.cert_text.specs.Taking.{Flags}
use Rattle.cert_text.proofs.states.flags_of.Given as goal

abbrev pub invariant-loop-state : goal.invariant-loop-state
invariant-loop-state l = record {
  long : length l.flags.items ≡ l.bound;
  flagged : Flags l.flags.items (take l.state-index l.listed);
}

use Rattle.std.proofs.Common.{◌≡◌, length}
use Rattle.state_match.proofs.kept.nothing_known.Given as goal

abbrev pub invariant-loop : goal.invariant-loop
invariant-loop l = length l.sets.items ≡ l.counter

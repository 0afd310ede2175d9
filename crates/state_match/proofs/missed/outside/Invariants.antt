use Rattle.std.proofs.Common.{◌≡◌, ◌==◌, not, take}
use Rattle.std.specs.List.{filter, list_any}
use Rattle.state_match.proofs.missed.outside.Given as goal

abbrev pub invariant-loop-state : goal.invariant-loop-state
invariant-loop-state l = l.others.items ≡ filter (λ q. not (list_any (λ y. q == y) l.set)) (take l.state-index l.states)

use Rattle.std.proofs.Common.{◌≡◌, map, take, length}
use Rattle.reach_rows.specs.Paths.{turn_edge}
use Rattle.reach_rows.proofs.reach.turn.Given as goal

abbrev pub invariant-loop-place : goal.invariant-loop-place
invariant-loop-place l = record { done : take l.place l.turned ≡ map turn_edge (take l.place l.edges); long : length l.turned ≡ length l.edges }

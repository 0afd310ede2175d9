use Rattle.std.proofs.Common.{◌≡◌, take}
use Rattle.eq_merge.specs.Ends.{states_at}
use Rattle.eq_merge.proofs.ends.states_at.Given as goal

abbrev pub invariant-loop-place : goal.invariant-loop-place
invariant-loop-place l = l.states ≡ states_at (take l.place-index l.places) l.assignment

use Rattle.std.proofs.Common.{◌≡◌, take}
use Rattle.state_match.proofs.renew.same_front.Given as goal

abbrev pub invariant-loop-place : goal.invariant-loop-place
invariant-loop-place l = take l.place l.last ≡ take l.place l.next

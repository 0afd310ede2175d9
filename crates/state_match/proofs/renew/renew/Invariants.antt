use Rattle.std.proofs.Common.{◌≡◌, length}
use Rattle.state_match.proofs.members.Kepts.{RenewsTo}
use Rattle.state_match.proofs.renew.renew.Given as goal

abbrev pub invariant-loop-place : goal.invariant-loop-place
invariant-loop-place l = (length l.values.items ≡ length l.nodes) × RenewsTo l.automaton l.assignment l.staying l.nodes l.fn.values.items l.place l.values.items

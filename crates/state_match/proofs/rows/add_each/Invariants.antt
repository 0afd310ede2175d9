use Rattle.std.proofs.Common.{take, drop}
use Rattle.state_match.specs.Rows.{HasNext}
use Rattle.state_match.proofs.rows.add_each.Given as goal

abbrev pub invariant-loop-t : goal.invariant-loop-t
invariant-loop-t l = HasNext l.fn.found.items (take l.t-index l.rows) l.place (drop l.place l.sets) l.others l.arity l.wanted l.found.items

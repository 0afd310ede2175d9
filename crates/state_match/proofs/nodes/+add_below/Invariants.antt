use Rattle.std.proofs.Common.{List, take}
use Rattle.ranked_terms.specs.declared.term.Pattern.{Pattern}
use Rattle.state_match.specs.Kepts.{AreNodes}
use Rattle.state_match.proofs.members.KeptTables.{Gathers}
use Rattle.state_match.proofs.nodes.+add_below.Given as goal

abbrev pub invariant-loop-arg : goal.invariant-loop-arg
invariant-loop-arg l = (before : List Pattern) → AreNodes l.vars l.fn.nodes.items before → Gathers l.vars before l.nodes.items l.own.items l.until (take l.arg-index l.arg-items)

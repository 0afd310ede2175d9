use Rattle.std.proofs.Common.{◌≡◌, map, take}
use Rattle.ranked_terms.specs.declared.term.Config.{State}
use Rattle.normalise.proofs.fitting.node_of.Given as goal

-- the states so far
abbrev pub invariant-loop-state : goal.invariant-loop-state
invariant-loop-state l = l.args ≡ map State (take l.state-index l.states)

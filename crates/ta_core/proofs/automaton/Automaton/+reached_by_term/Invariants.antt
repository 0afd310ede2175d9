use Rattle.std.proofs.Common.{take, map}
use Rattle.ranked_terms.specs.Terms.{config_of}
use Rattle.ta_core.specs.lemmas.RunStates.{AreExact}
use Rattle.ta_core.proofs.automaton.Automaton.+reached_by_term.Given as goal

abbrev pub invariant-loop-arg : goal.invariant-loop-arg
invariant-loop-arg l = AreExact l.self (map config_of (take l.arg-index l.arg-items)) l.sets.items

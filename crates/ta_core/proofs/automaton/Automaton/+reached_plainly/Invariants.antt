use Rattle.std.proofs.Common.{take}
use Rattle.ta_core.specs.lemmas.PlainRuns.{ArePlain}
use Rattle.ta_core.proofs.automaton.Automaton.+reached_plainly.Given as goal

abbrev pub invariant-loop-arg : goal.invariant-loop-arg
invariant-loop-arg l = ArePlain l.self (take l.arg-index l.arg-items) l.sets.items

use Rattle.std.proofs.Common.{ℕ, ◌↔◌, take}
use Rattle.std.specs.List.{Contains, All}
use Rattle.ta_core.specs.Reached.{HasTransInto}
use Rattle.ta_core.proofs.automaton.Automaton.targets_of.Given as goal

abbrev pub invariant-loop-t : goal.invariant-loop-t
invariant-loop-t l = record {
  exact : (q : ℕ) → Contains l.targets q ↔ HasTransInto (take l.t-index l.t-items) l.sym l.sets q;
  inside : All (Contains l.self.states) l.targets;
}

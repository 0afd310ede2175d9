use Rattle.std.proofs.Common.{◌≡◌, All, take, map}
use Rattle.ta_core.specs.Acceptance.{EpsHolds}
use Rattle.closure_check.specs.Marking.{Marked}
use Rattle.closure_check.proofs.containing.first_eps.Given as goal

abbrev pub invariant-loop-from : goal.invariant-loop-from
invariant-loop-from l = record {
  place : l.place ≡ l.from-index;
  holds : All (EpsHolds l.automaton l.images) (take l.from-index l.eps);
  sizes : map (λ (set : Marked). set.size) l.sets ≡ map (λ (set : Marked). set.size) l.fn.sets;
}

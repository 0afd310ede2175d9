use Rattle.std.proofs.Common.{◌≡◌, All, take, map}
use Rattle.ta_core.specs.Acceptance.{TransHolds}
use Rattle.closure_check.specs.Marking.{Marked}
use Rattle.closure_check.proofs.containing.first_trans.Given as goal

abbrev pub invariant-loop-t : goal.invariant-loop-t
invariant-loop-t l = record {
  place : l.place ≡ l.t-index;
  holds : All (TransHolds l.automaton l.images) (take l.t-index l.trans);
  sizes : map (λ (set : Marked). set.size) l.sets ≡ map (λ (set : Marked). set.size) l.fn.sets;
}

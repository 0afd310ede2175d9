use Rattle.std.proofs.Common.{◌≡◌, ℕ, ◌<◌, slice_get, Some}
use Rattle.trs_rules.specs.Derivations.{terms_along, IsStepOf}
use Rattle.trs_rules.proofs.derivation.first_bad_step.Given as goal

abbrev pub invariant-loop-i : goal.invariant-loop-i
invariant-loop-i l = record {
  before : slice_get (terms_along l.d) l.i ≡ Some l.before;
  earlier : (j : ℕ) → j < l.i → IsStepOf l.rules l.d j;
}

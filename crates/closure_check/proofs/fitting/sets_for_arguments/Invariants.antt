use Rattle.std.proofs.Common.{ℕ, ◌<◌, ◌≤◌, ◌-◌, ◌^◌, All, take, length}
use Rattle.ta_core.specs.declared.trans.Trans.{Trans}
use Rattle.closure_check.proofs.fitting.sets_for_arguments.Given as goal

abbrev pub invariant-loop-t : goal.invariant-loop-t
invariant-loop-t l = (1 ≤ l.most) × (l.most < 2 ^ 64 - 1 → All (λ (t : Trans). length t.args < l.most) (take l.t-index l.trans)) × ((n : ℕ) → 0 < n → All (λ (t : Trans). length t.args < n) l.trans → l.most ≤ n)

use Rattle.std.proofs.Common.{ℕ, Option, IfNone, subst}
use Rattle.ta_clean.specs.Meeting.{FinalsMeet}
use Rattle.ta_clean.proofs.least.Building.{none_in_common}
use Rattle.ta_clean.proofs.witness.common_witness.Goals as goal

pub returns-in_default : goal.returns-in_default
returns-in_default c =
    let A = c.args.first.now in let B = c.args.second.now in
    none_in_common A B (subst (λ (o : Option (ℕ × ℕ)). IfNone o ((p q : ℕ) → FinalsMeet A B p q → ⊥)) c.in_default.is c.in_ok-some_first.ensures.none)

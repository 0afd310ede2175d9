use Rattle.std.proofs.Common.{◌≡◌, ◌∙◌, false, sym, ap, subst, ⊎_elim, arith}
use Rattle.std.proofs.lemmas.Bool.{cases_lt}
use Rattle.std.proofs.lemmas.List.{get_or_past}
use Rattle.ta_clean.specs.Sizes.{unmade, waits_in}
use Rattle.ta_clean.specs.declared.sizes.Made.{Made}
use Rattle.ta_clean.proofs.buckets.first_waiting.Goals as goal

pub loop-place-preserved : goal.loop-place-preserved
loop-place-preserved c k below =
    ⊎_elim
    (λ before. c.loop-place.invariant k before)
    (λ last. let same : c.loop-place.place ≡ k = omega (arith, last, below) in subst (λ n. waits_in c.args.made.now n ≡ false) same (sym c.waits.ensures ∙ c.if-waits.false))
    (cases_lt k c.loop-place.place)

pub returns-clause-none : goal.returns-clause-none
returns-clause-none c k =
    ⊎_elim
    (λ before. c.loop-place.invariant k before)
    (λ behind. ap (λ (m : Made). m.waits) (get_or_past c.args.made.now k unmade (omega (arith, behind, c.loop-place-test.false))))
    (cases_lt k c.loop-place.place)

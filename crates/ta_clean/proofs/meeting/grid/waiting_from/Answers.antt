use Rattle.std.proofs.Common.{◌≡◌, ◌∙◌, Some, slice_get, sym, subst, true≢false, ⊎_elim, arith}
use Rattle.std.proofs.lemmas.Bool.{cases_lt}
use Rattle.std.proofs.lemmas.Option.{slice_get_within}
use Rattle.ta_clean.specs.declared.meeting.grid.Mark.TheVariants.{Waiting}
use Rattle.ta_clean.proofs.meeting.grid.waiting_from.Goals as goal

pub loop-place-preserved : goal.loop-place-preserved
loop-place-preserved c k from below e =
    ⊎_elim
    (λ before. c.loop-place.invariant k from before e)
    (λ last. let same : k ≡ c.loop-place.place = omega (arith, last, below) in
    true≢false (sym (c.waits.ensures.1 (subst (λ n. slice_get c.args.marks.now n ≡ Some Waiting) same e)) ∙ c.if-waits.false))
    (cases_lt k c.loop-place.place)

pub returns-clause-none : goal.returns-clause-none
returns-clause-none c k from e = c.loop-place.invariant k from (omega (arith, slice_get_within c.args.marks.now k Waiting e, c.loop-place-test.false)) e

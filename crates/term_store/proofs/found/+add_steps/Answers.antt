use Rattle.std.proofs.Common.{◌≡◌, ◌+◌, ◌<◌, ◌≤◌, List, ℕ, length, get_or, All, sym, ap, subst, ◌∙◌, arith}
use Rattle.ranked_terms.specs.declared.term.Term.{Term}
use Rattle.trs_rules.specs.Rules.{RewriteRule}
use Rattle.term_store.specs.Store.{term_at, applied, Keeps}
use Rattle.term_store.specs.Found.{AreFound, AreFoundUpTo, StepsToLarge, AreLifted, HasLargeLift}
use Rattle.term_store.specs.declared.found.Found.{Found}
use Rattle.term_store.proofs.StoreLaws.{below}
use Rattle.term_store.proofs.Cases.{when_true, when_false}
use Rattle.term_store.proofs.FoundLaws.{length-keeps, keeps_more}
use Rattle.term_store.proofs.StepsLaws.{term_at_stays, applied_stays, one_argument_more, all_arguments, large_inside, large_lift}
use Rattle.term_store.proofs.found.+add_steps.Goals as goal

-- what holds in the loop, of the store at its start, in the loop and after the steps of an argument
module _ (R : List RewriteRule) (start : List Term) (id f : ℕ) (args : List ℕ) (here : id < length start) (is : term_at start id ≡ applied start f args) (low : All (λ a. a < id) args)
    (now : List Term) (keeps : Keeps start now) (xs : List ℕ) (same : xs ≡ args) (ys : List ℕ) (same' : ys ≡ args) (place : ℕ) (within : place < length xs) where
  within_args : place < length args
  within_args = subst (λ zs. place < length zs) same within

  is_now : (later : List Term) → Keeps start later → term_at start id ≡ applied later f args
  is_now later k = is ∙ sym (applied_stays start later k f args (below id (length start) args (omega (arith, here)) low))

  arg_is : get_or ys place 0 ≡ get_or args place 0
  arg_is = ap (λ zs. get_or zs place 0) same'

  arg_here : get_or args place 0 < length now
  arg_here = let a = low place 0 within_args in omega (arith, a, here, length-keeps start now keeps)

  too_large : StepsToLarge R (term_at now (get_or ys place 0)) → StepsToLarge R (term_at start id)
  too_large h = large_inside R (term_at start id) f args place now within_args (is_now now keeps) (subst (λ a. StepsToLarge R (term_at now a)) arg_is h)

  module _ (after : List Term) (more : Keeps now after) (founds : List Found) (inside : AreFound R (term_at now (get_or ys place 0)) after founds) where
    inside_after : AreFound R (term_at after (get_or args place 0)) after founds
    inside_after = subst (λ u. AreFound R u after founds) (ap (term_at now) arg_is ∙ sym (term_at_stays now after more (get_or args place 0) arg_here)) inside

    both : Keeps start after
    both = keeps_more start now after keeps more

    lifted_large : (zs : List ℕ) → zs ≡ args → HasLargeLift f zs place after founds → StepsToLarge R (term_at start id)
    lifted_large zs e h = large_lift R (term_at start id) f args place after within_args (is_now after both) founds inside_after (subst (λ zs. HasLargeLift f zs place after founds) e h)

    one_more : (zs : List ℕ) → zs ≡ args → (last : List Term) → Keeps after last → (old new : List Found) → AreFoundUpTo R (term_at start id) now place old → AreLifted f zs place after last founds old new → AreFoundUpTo R (term_at start id) last (place + 1) new
    one_more zs e last k old new earlier lifts =
        one_argument_more R (term_at start id) f args place now after last more k within_args
        (below id (length after) args (let n = length-keeps start after both in omega (arith, here, n)) low)
        (is_now after both) founds old new (subst (λ zs. AreLifted f zs place after last founds old new) e lifts) inside_after earlier

pub returns-then-not-branch-2-clause-found : goal.returns-then-not-branch-2-clause-found
returns-then-not-branch-2-clause-found t c =
    too_large c.args.rules.now c.args.store.now c.args.id c.in_ok-sym.sym c.in_ok-sym.args c.requires.there c.in_ok-sym.ensures.is c.in_ok-sym.ensures.args
    c.loop-place.store c.loop-place.invariant.0 c.as_slice-place-end.result.now c.as_slice-place-end.ensures c.as_slice.result.now c.as_slice.ensures c.loop-place.place c.loop-place-test.true
    (when_false _ _ c.in_ok-add_steps.field-0 c.if-not-branch-2.true c.in_ok-add_steps.ensures.found)

pub returns-then-not-branch-3-clause-found : goal.returns-then-not-branch-3-clause-found
returns-then-not-branch-3-clause-found t c =
    lifted_large c.args.rules.now c.args.store.now c.args.id c.in_ok-sym.sym c.in_ok-sym.args c.requires.there c.in_ok-sym.ensures.is c.in_ok-sym.ensures.args
    c.loop-place.store c.loop-place.invariant.0 c.as_slice-place-end.result.now c.as_slice-place-end.ensures c.as_slice.result.now c.as_slice.ensures c.loop-place.place c.loop-place-test.true
    c.add_steps.new.store c.in_ok-add_steps.ensures.kept c.add_steps.new.founds
    (when_true _ _ c.in_ok-add_steps.field-0 c.if-not-branch-2.false c.in_ok-add_steps.ensures.found)
    c.as_slice-in-loop-place.result.now c.as_slice-in-loop-place.ensures
    (when_false _ _ c.in_ok-lift_all.field-0 c.if-not-branch-3.true c.in_ok-lift_all.ensures.lifted)

pub loop-place-preserved : goal.loop-place-preserved
loop-place-preserved t c = (
  keeps_more c.args.store.now c.add_steps.new.store c.lift_all.new.store (keeps_more c.args.store.now c.loop-place.store c.add_steps.new.store c.loop-place.invariant.0 c.in_ok-add_steps.ensures.kept) c.in_ok-lift_all.ensures.kept,
  one_more c.args.rules.now c.args.store.now c.args.id c.in_ok-sym.sym c.in_ok-sym.args c.requires.there c.in_ok-sym.ensures.is c.in_ok-sym.ensures.args
      c.loop-place.store c.loop-place.invariant.0 c.as_slice-place-end.result.now c.as_slice-place-end.ensures c.as_slice.result.now c.as_slice.ensures c.loop-place.place c.loop-place-test.true
      c.add_steps.new.store c.in_ok-add_steps.ensures.kept c.add_steps.new.founds
      (when_true _ _ c.in_ok-add_steps.field-0 c.if-not-branch-2.false c.in_ok-add_steps.ensures.found)
      c.as_slice-in-loop-place.result.now c.as_slice-in-loop-place.ensures
      c.lift_all.new.store c.in_ok-lift_all.ensures.kept c.loop-place.founds c.lift_all.new.founds c.loop-place.invariant.1
      (when_true _ _ c.in_ok-lift_all.field-0 c.if-not-branch-3.false c.in_ok-lift_all.ensures.lifted),
)

pub returns-clause-found : goal.returns-clause-found
returns-clause-found t c =
    let args = c.in_ok-sym.args in
    let enough : length args ≤ c.loop-place.place = subst (λ xs. length xs ≤ c.loop-place.place) c.as_slice-place-end.ensures (omega (arith, c.loop-place-test.false)) in
    all_arguments c.args.rules.now (term_at c.args.store.now c.args.id) c.in_ok-sym.sym args c.loop-place.store c.args.store.now c.loop-place.founds c.loop-place.place enough c.in_ok-sym.ensures.is c.loop-place.invariant.1

pub lift_all-requires-clause-args : goal.lift_all-requires-clause-args
lift_all-requires-clause-args t c =
    let start = c.args.store.now in let after = c.add_steps.new.store in
    let more = length-keeps start after (keeps_more start c.loop-place.store after c.loop-place.invariant.0 c.in_ok-add_steps.ensures.kept) in
    subst (λ zs. All (λ a. a < length after) zs) (sym c.as_slice-in-loop-place.ensures)
    (below c.args.id (length after) c.in_ok-sym.args (let here = c.requires.there in omega (arith, here, more)) c.in_ok-sym.ensures.args)

use Rattle.std.proofs.Common.{rules, ◌≡◌, ◌<◌, ◌+◌, All, length, take, map, slice_get, Some, subst, sym, ap, ◌∙◌}
use Rattle.std.specs.Prelude.{IfOk, MatchOption}
use Rattle.ranked_terms.specs.Terms.{size_of}
use Rattle.ranked_terms.specs.declared.term.Pattern.TheVariants.{App}
use Rattle.ranked_terms.specs.declared.term.Pattern.TheViews.{the_lemmas}
use Rattle.term_store.specs.Store.{term_at, applied}
use Rattle.term_store.specs.Rooted.{instance_by}
use Rattle.term_store.proofs.FoundLaws.{keeps_more}
use Rattle.term_store.proofs.RootedLaws.{is_bound, instance_at, ids_stay, next_bound, rest_bound, made_more, large_part, made_whole}
use Rattle.term_store.proofs.Cases.{when_none, when_some}
use Rattle.term_store.proofs.rooted.+build_ids.Goals as goal

pub unreachable-requires : goal.unreachable-requires
unreachable-requires t c = is_bound c.args.store.now c.args.binding.now c.in-Var.variable c.args.p.now c.in-Var.is c.requires.bound (sym c.bound_to.ensures ∙ c.in-None.is)

pub returns-in-Some-clause-built : goal.returns-in-Some-clause-built
returns-in-Some-clause-built t c =
    instance_at c.args.store.now c.args.binding.now c.in-Var.variable c.in-Some.id c.requires.ids (sym c.bound_to.ensures ∙ c.in-Some.is)
    ∙ ap (λ p. Some (instance_by c.args.store.now c.args.binding.now p)) (sym c.in-Var.is)

pub build_ids-requires : goal.build_ids-requires
build_ids-requires t c = (
  search (rules, the_lemmas),
  (
    ids_stay c.args.store.now c.loop-arg.store c.loop-arg.invariant.0 c.args.binding.now c.requires.ids,
    next_bound c.args.store.now c.loop-arg.store c.loop-arg.invariant.0 c.args.binding.now c.requires.ids c.as_slice-arg-items.result.now c.loop-arg.arg-index c.arg-item.result c.loop-arg-test.true c.arg-item.is c.loop-arg.invariant.1.1.1,
  ),
)

pub returns-in_default-clause-built : goal.returns-in_default-clause-built
returns-in_default-clause-built t c =
    large_part c.args.store.now c.loop-arg.store c.loop-arg.invariant.0 c.args.binding.now c.requires.ids c.as_slice-arg-items.result.now c.loop-arg.arg-index c.arg-item.result c.loop-arg-test.true c.arg-item.is
    c.in-App.f c.args.p.now (c.in-App.is ∙ ap (App c.in-App.f) (sym c.as_slice-arg-items.ensures))
    (when_none _ _ c.in_ok-id-in-App.field-0 c.in_default.is c.in_ok-id-in-App.ensures.built)

pub loop-arg-preserved : goal.loop-arg-preserved
loop-arg-preserved t c =
    let start = c.args.store.now in let now = c.loop-arg.store in let after = c.build_ids.new.store in let args = c.as_slice-arg-items.result.now in
    let k = c.loop-arg.invariant.0 in let l = c.in_ok-id-in-App.ensures.kept in
    let made = when_some _ _ c.in_ok-id-in-App.field-0 c.in-Some-2.id c.in-Some-2.is c.in_ok-id-in-App.ensures.built in
    let more = made_more start now k c.args.binding.now c.requires.ids args c.loop-arg.arg-index c.arg-item.result c.loop-arg-test.true c.arg-item.is after l c.loop-arg.ids.items c.loop-arg.invariant.1.0 c.loop-arg.invariant.1.1.0 c.in-Some-2.id made in (
      keeps_more start now after k l,
      (
        subst (λ ids. All (λ a. a < length after) ids) (sym c.in_ok-push-in-App.ensures.ok) more.0,
        (
          subst (λ ids. map (term_at after) ids ≡ map (instance_by start c.args.binding.now) (take (c.loop-arg.arg-index + 1) args)) (sym c.in_ok-push-in-App.ensures.ok) more.1,
          rest_bound start now k c.args.binding.now c.requires.ids args c.loop-arg.arg-index c.arg-item.result c.loop-arg-test.true c.arg-item.is c.loop-arg.invariant.1.1.1,
        ),
      ),
    )

pub returns-after-loop-arg-clause-built : goal.returns-after-loop-arg-clause-built
returns-after-loop-arg-clause-built t c =
    subst (λ u. IfOk c.make.result (λ o. MatchOption o (1024 < size_of u) (λ id. slice_get c.make.new.self id ≡ Some u)))
    (ap (applied c.loop-arg.store c.in-App.f) c.as_slice.ensures ∙ made_whole c.args.store.now c.loop-arg.store c.args.binding.now c.in-App.f c.as_slice-arg-items.result.now c.args.p.now c.loop-arg.arg-index c.loop-arg.ids.items
    (c.in-App.is ∙ ap (App c.in-App.f) (sym c.as_slice-arg-items.ensures)) c.loop-arg-test.false c.loop-arg.invariant.1.1.0)
    c.make.ensures.made

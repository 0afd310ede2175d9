use Rattle.std.proofs.Common.{◌≡◌, ◌+◌, ◌≤◌, ◌⊎◌, length, subst, sym, ⊎_elim, arith}
use Rattle.derive_search.specs.Search.{GoesOnTo, SearchAnswer}
use Rattle.derive_search.specs.Growing.{terms_in, AreGrown, AreClosed, GrowsLarge, IsOneTooMany, IsLevel}
use Rattle.derive_search.proofs.StoreFacts.{when_true, when_false, when_none, when_some}
use Rattle.derive_search.proofs.SearchLaws.{goes_on, too_many, too_large, grows_on, found_at}
use Rattle.derive_search.specs.StateSets.{AreStateSets}
use Rattle.derive_search.proofs.StateSetLaws.{no_sets, sets_stay}
use Rattle.derive_search.proofs.bounded.search_from.Goals as goal

pub loop-step-init : goal.loop-step-init
loop-step-init c =
    let spec = c.args.spec.now in let store = c.args.store.now in
    (c.requires.starts, subst (AreStateSets spec.forbidden store) (sym c.new-sets.ensures.items) (no_sets spec.forbidden store))

pub returns-in-Some : goal.returns-in-Some
returns-in-Some c =
    found_at c.args.spec.now c.args.options.now c.loop-step.step c.loop-step.store c.loop-step.levels.ids.keys c.loop-step.levels.origins.items c.loop-step.first c.loop-step.invariant.0
    c.accepted_terms_are_over.ensures c.in-Some.derivation (omega (arith, c.loop-step-test.true)) (when_some _ _ c.in_ok-derivation.field-0 c.in-Some.derivation c.in-Some.is c.in_ok-derivation.ensures.hit)

pub returns-then-not-within : goal.returns-then-not-within
returns-then-not-within c =
    let spec = c.args.spec.now in let options = c.args.options.now in let l = c.loop-step in
    let ids = l.levels.ids.keys in let os = l.levels.origins.items in let ids' = c.grow.new.levels.ids.keys in let os' = c.grow.new.levels.origins.items in
    let none = when_none _ _ c.in_ok-derivation.field-0 c.in_default.is c.in_ok-derivation.ensures.hit in
    let rules = c.as_slice-rules.ensures in
    let grown = subst (λ R. AreGrown R (terms_in l.store ids) l.first c.grow.new.store ids os ids' os') rules c.in_ok-within.ensures.grown in
    let failed = subst (λ R. GrowsLarge R (terms_in l.store ids) l.first ⊎ IsOneTooMany options.terms ids') rules (when_false _ _ c.in_ok-within.within c.if-not-within.true c.in_ok-within.ensures.all) in
    SearchAnswer.over (l.step + 1) (omega (arith, c.loop-step-test.true))
    (goes_on spec options l.step l.store ids os l.first l.invariant.0 none)
    (⊎_elim
    (λ large. too_large spec options l.step l.store ids os l.first l.invariant.0 none large)
    (λ many. too_many spec options l.step l.store ids os l.first l.invariant.0 none c.grow.new.store c.in_ok-within.ensures.kept c.len-terms.ensures.store ids' os' grown many)
    failed)

pub loop-step-preserved : goal.loop-step-preserved
loop-step-preserved c =
    let spec = c.args.spec.now in let options = c.args.options.now in let l = c.loop-step in
    let ids = l.levels.ids.keys in let os = l.levels.origins.items in let ids' = c.grow.new.levels.ids.keys in let os' = c.grow.new.levels.origins.items in
    let none = when_none _ _ c.in_ok-derivation.field-0 c.in_default.is c.in_ok-derivation.ensures.hit in
    let rules = c.as_slice-rules.ensures in
    let grown = subst (λ R. AreGrown R (terms_in l.store ids) l.first c.grow.new.store ids os ids' os') rules c.in_ok-within.ensures.grown in
    let all = subst (λ R. AreClosed R (terms_in l.store ids) l.first (length ids) (terms_in c.grow.new.store ids') × (length ids' ≤ options.terms)) rules (when_true _ _ c.in_ok-within.within c.if-not-within.false c.in_ok-within.ensures.all) in (
      subst (λ n. IsLevel spec options (l.step + 1) c.grow.new.store ids' os' n) (sym c.len-end.ensures.len)
          (grows_on spec options l.step l.store ids os l.first l.invariant.0 none c.grow.new.store c.in_ok-within.ensures.kept c.len-terms.ensures.store ids' os' grown all.0 all.1),
      sets_stay spec.forbidden l.store c.grow.new.store c.in_ok-within.ensures.kept c.test_level.new.sets.items c.in_ok-derivation.ensures.sets,
    )

pub returns-in-Some-2 : goal.returns-in-Some-2
returns-in-Some-2 c =
    found_at c.args.spec.now c.args.options.now c.loop-step.step c.loop-step.store c.loop-step.levels.ids.keys c.loop-step.levels.origins.items c.loop-step.first c.loop-step.invariant.0
    c.accepted_terms_are_over.ensures c.in-Some-2.derivation c.loop-step.auto.step-end (when_some _ _ c.in_ok-derivation-2.field-0 c.in-Some-2.derivation c.in-Some-2.is c.in_ok-derivation-2.ensures.hit)

pub returns : goal.returns
returns c =
    let spec = c.args.spec.now in let options = c.args.options.now in let l = c.loop-step in
    let last : l.step ≡ options.steps = omega (arith, l.auto.step-end, c.loop-step-test.false) in
    SearchAnswer.exhausted (subst (λ n. GoesOnTo spec options (n + 1)) last
    (goes_on spec options l.step l.store l.levels.ids.keys l.levels.origins.items l.first l.invariant.0 (when_none _ _ c.in_ok-derivation-2.field-0 c.in-None.is c.in_ok-derivation-2.ensures.hit)))

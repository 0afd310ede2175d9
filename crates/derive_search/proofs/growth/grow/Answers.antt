use Rattle.std.proofs.Common.{◌<◌, length, inl, arith}
use Rattle.std.proofs.lemmas.List.Elements.{All-contains}
use Rattle.term_store.specs.Store.{term_at}
use Rattle.derive_search.specs.Growing.{terms_in}
use Rattle.derive_search.proofs.StoreFacts.{keeps_itself, keeps_more}
use Rattle.derive_search.proofs.StoreFacts.{when_none, when_some, when_true}
use Rattle.derive_search.proofs.GrowthLaws.{nothing_grown, nothing_closed, grown_stays, grown_more, closed_more, large_growth, place_is, is_member}
use Rattle.derive_search.proofs.growth.grow.Goals as goal

pub loop-place-init : goal.loop-place-init
loop-place-init c =
    let ts = terms_in c.args.store.now c.args.levels.now.ids.keys in (
      keeps_itself c.args.store.now,
      (
        nothing_grown c.args.rules.now ts c.args.first c.args.levels.now.ids.keys c.args.levels.now.origins.items c.args.store.now c.requires.there,
        (nothing_closed c.args.rules.now ts c.args.first c.args.levels.now.ids.keys c.args.levels.now.origins.items ts, c.requires.few),
      ),
    )

pub steps_from-requires-clause-there : goal.steps_from-requires-clause-there
steps_from-requires-clause-there c =
    All-contains (λ a. a < length c.loop-place.store) c.loop-place.levels.ids.keys c.id_at-id.result c.loop-place.invariant.1.0.there (is_member c.loop-place.levels.ids.keys c.loop-place.place c.id_at-id.result c.id_at-id.ensures)

pub returns-in_default-clause-grown : goal.returns-in_default-clause-grown
returns-in_default-clause-grown c =
    grown_stays c.args.rules.now (terms_in c.args.store.now c.args.levels.now.ids.keys) c.args.first c.args.levels.now.ids.keys c.args.levels.now.origins.items c.loop-place.store c.steps_from.new.store c.in_ok-founds.ensures.kept c.loop-place.levels.ids.keys c.loop-place.levels.origins.items c.loop-place.invariant.1.0

pub returns-in_default-clause-all : goal.returns-in_default-clause-all
returns-in_default-clause-all c =
    let g = c.loop-place.invariant.1.0 in
    let is = place_is c.args.store.now c.loop-place.store c.loop-place.invariant.0 c.args.levels.now.ids.keys g.more c.loop-place.levels.ids.keys c.requires.there g.ids_are c.loop-place.place c.id_at-id.result (omega (arith, c.loop-place-test.true, c.len-end.ensures.len)) c.id_at-id.ensures in
    inl (large_growth c.args.rules.now (terms_in c.args.store.now c.args.levels.now.ids.keys) c.args.first c.args.levels.now.ids.keys c.args.levels.now.origins.items c.loop-place.place (term_at c.loop-place.store c.id_at-id.result) is c.loop-place.auto.place
    (when_none _ _ c.in_ok-founds.field-0 c.in_default.is c.in_ok-founds.ensures.found))

pub returns-then-not-branch-clause-grown : goal.returns-then-not-branch-clause-grown
returns-then-not-branch-clause-grown c =
    let g = c.loop-place.invariant.1.0 in
    let is = place_is c.args.store.now c.loop-place.store c.loop-place.invariant.0 c.args.levels.now.ids.keys g.more c.loop-place.levels.ids.keys c.requires.there g.ids_are c.loop-place.place c.id_at-id.result (omega (arith, c.loop-place-test.true, c.len-end.ensures.len)) c.id_at-id.ensures in
    grown_more c.args.rules.now (terms_in c.args.store.now c.args.levels.now.ids.keys) c.args.first c.args.levels.now.ids.keys c.args.levels.now.origins.items c.loop-place.place (term_at c.loop-place.store c.id_at-id.result) is c.loop-place.auto.place
    c.loop-place.store c.steps_from.new.store c.in_ok-founds.ensures.kept c.in-Some.founds (when_some _ _ c.in_ok-founds.field-0 c.in-Some.founds c.in-Some.is c.in_ok-founds.ensures.found)
    c.loop-place.levels.ids.keys c.loop-place.levels.origins.items c.add_all.new.levels.ids.keys c.add_all.new.levels.origins.items c.in_ok-add_all.ensures.added g

pub loop-place-preserved : goal.loop-place-preserved
loop-place-preserved c =
    let g = c.loop-place.invariant.1.0 in
    let ts = terms_in c.args.store.now c.args.levels.now.ids.keys in
    let is = place_is c.args.store.now c.loop-place.store c.loop-place.invariant.0 c.args.levels.now.ids.keys g.more c.loop-place.levels.ids.keys c.requires.there g.ids_are c.loop-place.place c.id_at-id.result (omega (arith, c.loop-place-test.true, c.len-end.ensures.len)) c.id_at-id.ensures in
    let founds = when_some _ _ c.in_ok-founds.field-0 c.in-Some.founds c.in-Some.is c.in_ok-founds.ensures.found in
    let added = when_true _ _ c.in_ok-add_all.field-0 c.if-not-branch.false c.in_ok-add_all.ensures.all in (
      keeps_more c.args.store.now c.loop-place.store c.steps_from.new.store c.loop-place.invariant.0 c.in_ok-founds.ensures.kept,
      (
        grown_more c.args.rules.now ts c.args.first c.args.levels.now.ids.keys c.args.levels.now.origins.items c.loop-place.place (term_at c.loop-place.store c.id_at-id.result) is c.loop-place.auto.place
            c.loop-place.store c.steps_from.new.store c.in_ok-founds.ensures.kept c.in-Some.founds founds
            c.loop-place.levels.ids.keys c.loop-place.levels.origins.items c.add_all.new.levels.ids.keys c.add_all.new.levels.origins.items c.in_ok-add_all.ensures.added g,
        (
          closed_more c.args.rules.now ts c.args.first c.args.levels.now.ids.keys c.args.levels.now.origins.items c.loop-place.place (term_at c.loop-place.store c.id_at-id.result) is c.loop-place.auto.place
              c.loop-place.store c.steps_from.new.store c.in_ok-founds.ensures.kept c.in-Some.founds founds
              c.loop-place.levels.ids.keys c.loop-place.levels.origins.items c.add_all.new.levels.ids.keys c.add_all.new.levels.origins.items c.in_ok-add_all.ensures.added g added.0 c.loop-place.invariant.1.1.0,
          added.1,
        ),
      ),
    )

use Rattle.std.proofs.Common.{◌≡◌, Some, slice_get, sym, ap, subst, ◌∙◌, arith}
use Rattle.term_store.specs.Store.{term_at}
use Rattle.derive_search.specs.Growing.{terms_in, DerivesTo}
use Rattle.derive_search.proofs.GrowthLaws.{at_map, at_index}
use Rattle.derive_search.proofs.SearchLaws.{read_step}
use Rattle.derive_search.proofs.growth.+read_back.Goals as goal

pub returns-in_ok-push-in-Some : goal.returns-in_ok-push-in-Some
returns-in_ok-push-in-Some t c R n comes =
    let ts = terms_in c.args.store.now c.args.levels.now.ids.keys in
    let os = c.args.levels.now.origins.items in
    let is : slice_get ts c.args.place ≡ Some c.in_ok-term.term = at_map (term_at c.args.store.now) c.args.levels.now.ids.keys c.args.place c.id_at.result c.id_at.ensures ∙ ap Some (sym c.in_ok-term.ensures) in
    let e : slice_get os c.args.place ≡ Some (Some c.in-Some.origin) = at_index os c.args.place c.index.result.now (omega (arith, c.requires.place, c.requires.count)) c.index.ensures ∙ ap Some c.in-Some.is in
    subst (λ steps. DerivesTo R ts os c.args.place n (record { start = c.in_ok-derivation-in-Some.derivation.start; steps = steps })) (sym c.in_ok-push-in-Some.ensures.ok)
    (read_step R ts os c.args.place n c.in_ok-term.term c.in-Some.origin c.in_ok-at-in-Some.at c.in_ok-derivation-in-Some.derivation is e c.in_ok-at-in-Some.ensures (λ m. c.in_ok-derivation-in-Some.ensures R m) comes)

use Rattle.std.proofs.Common.{true, true≢false, ◌≡◌, slice_get, sym, ap, subst, ◌∙◌, ⊎_elim, arith}
use Rattle.ta_core.specs.Languages.{Accepts}
use Rattle.derive_search.proofs.SearchLaws.{last_or, same_some}
use Rattle.term_store.specs.Store.{term_at}
use Rattle.derive_search.specs.Growing.{terms_in}
use Rattle.std.proofs.lemmas.Option.{slice_get_within}
use Rattle.derive_search.proofs.GrowthLaws.{at_map, length-terms_in}
use Rattle.derive_search.proofs.bounded.test_level.Goals as goal

pub returns-then-is_accepted-clause-hit : goal.returns-then-is_accepted-clause-hit
returns-then-is_accepted-clause-hit c = record {
  place = c.loop-place.place;
  late = c.loop-place.auto.place;
  term = term_at c.args.store.now c.id_at-id.result;
  is_term = at_map (term_at c.args.store.now) c.args.levels.now.ids.keys c.loop-place.place c.id_at-id.result c.id_at-id.ensures;
  accepted = c.is_accepted.ensures.0 c.if-is_accepted.true;
  derives = λ n. c.in_ok-derivation.ensures c.args.spec.now.rules n;
}

pub loop-place-preserved : goal.loop-place-preserved
loop-place-preserved c place t late below is accepted = ⊎_elim
    (λ less. c.loop-place.invariant place t late less is accepted)
    (λ same.
    let at = at_map (term_at c.args.store.now) c.args.levels.now.ids.keys c.loop-place.place c.id_at-id.result c.id_at-id.ensures in
    let e = same_some t (term_at c.args.store.now c.id_at-id.result) (sym is ∙ (ap (slice_get (terms_in c.args.store.now c.args.levels.now.ids.keys)) same ∙ at)) in
    let yes : c.is_accepted.result ≡ true = c.is_accepted.ensures.1 (subst (Accepts c.args.spec.now.forbidden) e accepted) in
    true≢false (sym yes ∙ c.if-is_accepted.false))
    (last_or place c.loop-place.place below)

pub returns-clause-hit : goal.returns-clause-hit
returns-clause-hit c place t late is accepted =
    let w = slice_get_within (terms_in c.args.store.now c.args.levels.now.ids.keys) place t is in
    c.loop-place.invariant place t late (omega (arith, w, length-terms_in c.args.store.now c.args.levels.now.ids.keys, c.len-place-end.ensures.len, c.loop-place-test.false)) is accepted

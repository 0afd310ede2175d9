use Rattle.std.proofs.Common.{subst, sym, inl, arith}
use Rattle.derive_search.specs.Search.{SearchAnswer}
use Rattle.derive_search.specs.Growing.{AreStarts}
use Rattle.derive_search.proofs.StoreFacts.{when_none, when_some}
use Rattle.derive_search.proofs.SearchLaws.{level_zero}
use Rattle.derive_search.proofs.bounded.search.Goals as goal

pub returns-in_default : goal.returns-in_default
returns-in_default c = SearchAnswer.over 0 (omega arith) (λ i l. absurd (omega (arith, l))) (inl (when_none _ _ c.in_ok-starts.field-0 c.in_default.is c.in_ok-starts.ensures.starts))

pub search_from-requires-clause-starts : goal.search_from-requires-clause-starts
search_from-requires-clause-starts c =
    let spec = c.args.spec.now in let options = c.args.options.now in let store = c.starts_of.new.store in
    let are = subst (AreStarts spec options store) (sym c.as_slice.ensures) (when_some _ _ c.in_ok-starts.field-0 c.in-Some.starts c.in-Some.is c.in_ok-starts.ensures.starts) in
    level_zero spec options store c.as_slice.result.now c.in_ok-levels.levels.ids.keys c.in_ok-levels.levels.origins.items c.len-terms.ensures.store are
    c.in_ok-levels.ensures.ids c.in_ok-levels.ensures.few c.in_ok-levels.ensures.count c.in_ok-levels.ensures.origins

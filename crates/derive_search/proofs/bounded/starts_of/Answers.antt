use Rattle.derive_search.proofs.StoreFacts.{when_some}
use Rattle.derive_search.proofs.pairs.StartLaws.{starts_are}
use Rattle.derive_search.proofs.bounded.starts_of.Goals as goal

pub returns-clause-starts : goal.returns-clause-starts
returns-clause-starts c =
    starts_are c.accepted_terms_are_over.ensures c.args.spec.now c.args.options.now c.low_pairs.new.store c.in-Some.pairs.keys
    (when_some _ _ c.in_ok-pairs.field-0 c.in-Some.pairs c.in-Some.is c.in_ok-pairs.ensures.pairs) c.in_ok-starts.starts c.in_ok-starts.ensures

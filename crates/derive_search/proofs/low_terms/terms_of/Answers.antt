use Rattle.derive_search.specs.TermsAnswer.{TermsAnswer}
use Rattle.derive_search.proofs.StoreFacts.{when_none, when_some}
use Rattle.derive_search.proofs.pairs.TextOrder.{pairs_over}
use Rattle.derive_search.proofs.low_terms.terms_of.Goals as goal

pub returns-in_default : goal.returns-in_default
returns-in_default c = TermsAnswer.over (when_none _ _ c.in_ok-pairs.field-0 c.in_default.is c.in_ok-pairs.ensures.pairs)

pub in_print_order-requires-clause-placed : goal.in_print_order-requires-clause-placed
in_print_order-requires-clause-placed c = (when_some _ _ c.in_ok-pairs.field-0 c.in-Some.pairs c.in-Some.is c.in_ok-pairs.ensures.pairs).placed

pub in_print_order-requires-clause-over : goal.in_print_order-requires-clause-over
in_print_order-requires-clause-over c =
    pairs_over c.accepted_terms_are_over.ensures c.runs_are_monotone.ensures c.args.sig.now c.args.a.now c.requires c.args.height c.args.limit c.low_pairs.new.store c.in-Some.pairs.keys
    (when_some _ _ c.in_ok-pairs.field-0 c.in-Some.pairs c.in-Some.is c.in_ok-pairs.ensures.pairs)

pub returns : goal.returns
returns c =
    let low = when_some _ _ c.in_ok-pairs.field-0 c.in-Some.pairs c.in-Some.is c.in_ok-pairs.ensures.pairs in
    TermsAnswer.listed c.in_ok-list.list low.fits (c.in_ok-list.ensures c.args.a.now c.args.height c.args.limit low)

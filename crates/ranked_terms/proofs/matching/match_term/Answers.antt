use Rattle.ranked_terms.proofs.bindings.BindingLaws.{decided}
use Rattle.ranked_terms.proofs.matching.match_term.Goals as goal

pub returns-clause-exactly : goal.returns-clause-exactly
returns-clause-exactly c = decided c.match_under.result c.args.p.now c.args.t.now c.args.b.now c.match_under.new.b c.len-bound.ensures.once c.match_under.ensures

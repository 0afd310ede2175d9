use Rattle.ranked_terms.proofs.bindings.BoundLaws.{is_instance_by}
use Rattle.ranked_terms.proofs.matching.instance.Goals as goal

pub returns : goal.returns
returns c = is_instance_by c.args.p.now c.args.b.now c.in_ok-term.term c.len-bound.ensures.once c.requires c.in_ok-term.ensures

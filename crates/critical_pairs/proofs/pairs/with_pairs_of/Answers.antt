use Rattle.std.proofs.Common.{ap, not}
use Rattle.critical_pairs.proofs.Triples.{setting_of}
use Rattle.critical_pairs.proofs.Opens.{whole_rule_at, over_limit_at}
use Rattle.critical_pairs.proofs.pairs.with_pairs_of.Goals as goal

pub returns-then-not-on-clause-more : goal.returns-then-not-on-clause-more
returns-then-not-on-clause-more c = λ e.
    over_limit_at (setting_of c.args.matcher.now c.args.number c.args.rule.now) c.args.limit c.args.pairs c.vars.result.now c.left.result.now c.in_ok-openings.openings c.each_group.new.visitor
    c.in_ok-openings.ensures c.vars.ensures.list c.left.ensures.side (c.in_ok-on.ensures.ended (ap not c.if-not-on.true))

pub returns-clause-all : goal.returns-clause-all
returns-clause-all c =
    whole_rule_at (setting_of c.args.matcher.now c.args.number c.args.rule.now) c.args.limit c.args.pairs c.vars.result.now c.left.result.now c.in_ok-openings.openings c.each_group.new.visitor
    c.in_ok-openings.ensures c.vars.ensures.list c.left.ensures.side c.into_pairs.result c.into_pairs.ensures (c.in_ok-on.ensures.whole c.if-not-on.false)

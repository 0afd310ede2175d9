use Rattle.std.proofs.Common.{ap, sym, ◌∙◌, ◌≤◌, length, subst}
use Rattle.ta_core.specs.TreeAutomaton.{TreeAutomaton}
use Rattle.eq_merge.specs.Ends.{AreEquatedBy}
use Rattle.eq_merge.proofs.finding.Leading.{on_ok, joined_weaker}
use Rattle.eq_merge.proofs.passes.join_plain.Goals as goal

pub join_each-requires-clause-next : goal.join_each-requires-clause-next
join_each-requires-clause-next c = subst (λ (M : TreeAutomaton). M.next ≤ length c.args.classes.now) (sym c.in_ok-matcher.ensures) c.requires.next

pub join_each-requires-clause-plain : goal.join_each-requires-clause-plain
join_each-requires-clause-plain c = ap (λ (X : TreeAutomaton). X.eps) c.in_ok-matcher.ensures ∙ c.requires.plain

pub returns-clause-joined : goal.returns-clause-joined
returns-clause-joined c =
    on_ok c.join_each.result (joined_weaker (λ p q. subst (λ M. AreEquatedBy M c.args.equations.now p q) c.in_ok-matcher.ensures)) c.join_each.ensures.joined

pub returns-clause-all : goal.returns-clause-all
returns-clause-all c =
    on_ok c.join_each.result (λ all p q x. all p q (subst (λ M. AreEquatedBy M c.args.equations.now p q) (sym c.in_ok-matcher.ensures) x)) c.join_each.ensures.all

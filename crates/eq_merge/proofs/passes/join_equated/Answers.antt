use Rattle.std.proofs.Common.{ap, sym, ◌∙◌, ◌≤◌, length, subst}
use Rattle.ta_core.specs.TreeAutomaton.{TreeAutomaton}
use Rattle.eq_merge.specs.Joined.{Joined}
use Rattle.eq_merge.proofs.finding.Leading.{on_ok, joined_weaker}
use Rattle.eq_merge.proofs.finding.PlainParts.{equated_in, equated_from, none_equated}
use Rattle.eq_merge.proofs.passes.join_equated.Goals as goal

pub returns-then-is_empty-clause-joined : goal.returns-then-is_empty-clause-joined
returns-then-is_empty-clause-joined c = Joined.none

pub returns-then-is_empty-clause-all : goal.returns-then-is_empty-clause-all
returns-then-is_empty-clause-all c p q x = absurd (none_equated c.args.automaton.now c.args.equations.now (sym c.is_empty.ensures ∙ c.if-is_empty.true) p q x)

pub join_plain-requires-clause-next : goal.join_plain-requires-clause-next
join_plain-requires-clause-next c = subst (λ n. n ≤ length c.args.classes.now) (sym (ap (λ (X : TreeAutomaton). X.next) c.in_ok-plain.ensures)) c.requires

pub join_plain-requires-clause-plain : goal.join_plain-requires-clause-plain
join_plain-requires-clause-plain c = ap (λ (X : TreeAutomaton). X.eps) c.in_ok-plain.ensures

pub returns-clause-joined : goal.returns-clause-joined
returns-clause-joined c =
    on_ok c.join_plain.result (joined_weaker (equated_in c.args.automaton.now c.in_ok-plain.plain c.in_ok-plain.ensures c.args.equations.now)) c.join_plain.ensures.joined

pub returns-clause-all : goal.returns-clause-all
returns-clause-all c =
    on_ok c.join_plain.result (λ all p q x. all p q (equated_from c.args.automaton.now c.in_ok-plain.plain c.in_ok-plain.ensures c.args.equations.now p q x)) c.join_plain.ensures.all

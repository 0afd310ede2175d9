use Rattle.std.proofs.Common.{not, sym, ap, subst}
use Rattle.eq_merge.specs.Merging.{IsLeastMerge}
use Rattle.eq_merge.specs.declared.merging.Merging.{Merging}
use Rattle.eq_merge.proofs.finding.OnTheWay.{at_first, after_pass, at_end, places_below}
use Rattle.eq_merge.proofs.merging.merged.Goals as goal

pub loop-merging-init : goal.loop-merging-init
loop-merging-init c =
    at_first c.lists_ascend.ensures.sound c.lists_ascend.ensures.order (record { automaton = c.in_ok-copy.field-0; renaming = c.in_ok-apart.field-0 }) c.next.result c.in_ok-copy.ensures
    c.next.ensures.value c.in_ok-apart.ensures

pub pass-requires : goal.pass-requires
pass-requires c = places_below c.lists_ascend.ensures.sound c.lists_ascend.ensures.order c.loop-merging.merging c.loop-merging.invariant

pub loop-merging-preserved : goal.loop-merging-preserved
loop-merging-preserved c =
    after_pass c.lists_ascend.ensures.sound c.lists_ascend.ensures.order c.loop-merging.merging c.pass.new.self c.loop-merging.invariant (c.in_ok-pass.ensures.goes_on c.if-branch.true)

pub loop-merging-smaller : goal.loop-merging-smaller
loop-merging-smaller c = (c.in_ok-pass.ensures.goes_on c.if-branch.true).fewer

pub returns-clause-least : goal.returns-clause-least
returns-clause-least c =
    let E = c.args.equations.now in
    let A = c.args.a.now in
    let h = c.in_ok-pass.ensures.ends (ap not c.if-branch.false) in
    subst (λ (m : Merging). IsLeastMerge E A m.automaton m.renaming) (sym h.0) (at_end c.lists_ascend.ensures.sound c.lists_ascend.ensures.order c.loop-merging.merging c.loop-merging.invariant h.1)

pub returns-clause-merged : goal.returns-clause-merged
returns-clause-merged c =
    c.merging_has_a_result.ensures.merged c.args.equations.now c.args.a.now c.pass.new.self.automaton c.pass.new.self.renaming c.each_is_equation.ensures c.lists_ascend.ensures.sound
    c.lists_ascend.ensures.order (returns-clause-least c)

pub returns-clause-coherent : goal.returns-clause-coherent
returns-clause-coherent c =
    c.merging_keeps_coherence.ensures.merges c.args.equations.now c.args.a.now c.pass.new.self.automaton c.pass.new.self.renaming c.lists_ascend.ensures.sound (returns-clause-merged c)

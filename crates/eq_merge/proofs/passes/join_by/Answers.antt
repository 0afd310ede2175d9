use Rattle.std.proofs.Common.{Contains, sym, ap, subst}
use Rattle.std.proofs.lemmas.List.Elements.{All-weaker}
use Rattle.ta_core.specs.TreeAutomaton.{TreeAutomaton, IsTransOf}
use Rattle.ta_core.specs.declared.trans.Trans.{Trans}
use Rattle.eq_merge.specs.Ends.{IsLed}
use Rattle.eq_merge.specs.Passes.{IsLeader}
use Rattle.eq_merge.proofs.quotients.QuotientSteps.{of_equal}
use Rattle.eq_merge.proofs.finding.Leading.{on_ok, joined_weaker, leaders_are_equated, all_are_one}
use Rattle.eq_merge.proofs.passes.join_by.Goals as goal

pub join_ends-requires-clause-inside : goal.join_ends-requires-clause-inside
join_ends-requires-clause-inside c =
    let B = c.in_ok-ends.ends in
    of_equal (λ S (t : Trans). Contains S t.to) (ap (λ (X : TreeAutomaton). X.states) c.on.ensures) c.trans.ensures.value
    (All-weaker (IsTransOf B.states) (λ (t : Trans). Contains B.states t.to) (λ t is. is.to) B.trans c.trans.ensures.sound.trans)

pub returns-clause-joined : goal.returns-clause-joined
returns-clause-joined c =
    let e = c.args.equation.now in
    let A = c.args.matcher.now in
    let B = c.in_ok-ends.ends in
    on_ok c.join_ends-2.result (joined_weaker (λ p q x. leaders_are_equated e c.vars.ensures.equation c.in_ok-ends.ensures c.trans.result.now c.trans.ensures.value p q
    (subst (λ X. IsLeader X c.trans.result.now p q) c.on.ensures x))) c.join_ends-2.ensures.joined

pub returns-clause-all : goal.returns-clause-all
returns-clause-all c =
    let e = c.args.equation.now in
    let B = c.in_ok-ends.ends in
    let h = c.join_ends-2.new.classes in
    on_ok c.join_ends-2.result (λ led. all_are_one e c.vars.ensures.equation c.in_ok-ends.ensures h (λ t i.
    subst (λ X. IsLed X h t) c.on.ensures (led t (subst (λ ts. Contains ts t) (sym c.trans.ensures.value) i)))) c.join_ends-2.ensures.led

use Rattle.std.proofs.Common.{ℕ, All, get_or, sym, subst, ◌∙◌, true≢false}
use Rattle.std.proofs.lemmas.List.{take_all, get_or_default}
use Rattle.std.proofs.lemmas.List.Elements.{All-more}
use Rattle.ta_core.specs.Acceptance.{FinalHolds}
use Rattle.closure_check.proofs.firsts.FirstFailures.{fails_first}
use Rattle.closure_check.proofs.containing.first_final.Goals as goal

pub returns-then-not-final_holds-clause-some : goal.returns-then-not-final_holds-clause-some
returns-then-not-final_holds-clause-some c =
    let q : ℕ = get_or c.args.finals.now c.loop-state.state-index 0 in
    fails_first (FinalHolds c.args.automaton.now c.args.images.now) c.args.finals.now c.loop-state.state-index q c.loop-state-test.true (get_or_default c.args.finals.now c.loop-state.state-index 0 q c.loop-state-test.true) c.loop-state.invariant (λ h. true≢false (sym (c.final_holds.ensures.1 h) ∙ c.if-not-final_holds.true))

pub loop-state-preserved : goal.loop-state-preserved
loop-state-preserved c =
    All-more (FinalHolds c.args.automaton.now c.args.images.now) c.args.finals.now c.loop-state.state-index 0 c.loop-state-test.true c.loop-state.invariant (c.final_holds.ensures.0 c.if-not-final_holds.false)

pub returns-clause-none : goal.returns-clause-none
returns-clause-none c = subst (All (FinalHolds c.args.automaton.now c.args.images.now)) (take_all c.loop-state.state-index c.args.finals.now c.loop-state-test.false) c.loop-state.invariant

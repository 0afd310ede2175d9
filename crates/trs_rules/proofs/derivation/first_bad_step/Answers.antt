use Rattle.std.proofs.Common.{◌<◌, ◌≤◌, false, refl, ap, subst, ◌∙◌, length, get_or, below_more, arith}
use Rattle.std.specs.Prelude.{IsTrue}
use Rattle.trs_rules.specs.Derivations.{IsStepOf}
use Rattle.trs_rules.proofs.chains.DerivationLaws.{along_start, along_next, is_step_of, step_of_is, first_bad_at, bad_is_none, all_good, none_bad}
use Rattle.trs_rules.proofs.derivation.first_bad_step.Goals as goal

pub returns-then-not-leads-clause-none : goal.returns-then-not-leads-clause-none
returns-then-not-leads-clause-none c =
    let R = c.args.rules.now in let d = c.args.d.now in let i = c.loop-i.i in let is_steps = c.as_slice-steps.ensures in
    let l : i < length d.steps = subst (λ xs. i < length xs) is_steps c.loop-i-test.true in
    let is = c.index-steps-i.is ∙ ap (λ xs. get_or xs i c.index-steps-i.result) is_steps in
    let bad : IsStepOf R d i → ⊥ = λ h.
    let x : IsTrue false = c.if-not-leads.ensures.1 (step_of_is R d i c.index-steps-i.result c.loop-i.before.now l is c.loop-i.invariant.before h) in cc in
    bad_is_none R d i l bad

pub returns-then-not-leads-clause-some : goal.returns-then-not-leads-clause-some
returns-then-not-leads-clause-some c =
    let R = c.args.rules.now in let d = c.args.d.now in let i = c.loop-i.i in let is_steps = c.as_slice-steps.ensures in
    let l : i < length d.steps = subst (λ xs. i < length xs) is_steps c.loop-i-test.true in
    let is = c.index-steps-i.is ∙ ap (λ xs. get_or xs i c.index-steps-i.result) is_steps in
    let bad : IsStepOf R d i → ⊥ = λ h.
    let x : IsTrue false = c.if-not-leads.ensures.1 (step_of_is R d i c.index-steps-i.result c.loop-i.before.now l is c.loop-i.invariant.before h) in cc in
    first_bad_at R d i l bad c.loop-i.invariant.earlier

pub loop-i-init : goal.loop-i-init
loop-i-init c = record { before = along_start c.args.rules.now c.args.d.now; earlier = λ j l. absurd (omega (arith, l)) }

pub loop-i-preserved : goal.loop-i-preserved
loop-i-preserved c =
    let R = c.args.rules.now in let d = c.args.d.now in let i = c.loop-i.i in let is_steps = c.as_slice-steps.ensures in
    let l : i < length d.steps = subst (λ xs. i < length xs) is_steps c.loop-i-test.true in
    let is = c.index-steps-i.is ∙ ap (λ xs. get_or xs i c.index-steps-i.result) is_steps in
    record {
      before = along_next R d i c.index-steps-i.result l is;
      earlier = below_more _ _ c.loop-i.invariant.earlier (is_step_of R d i c.index-steps-i.result c.loop-i.before.now l is c.loop-i.invariant.before (c.if-not-leads.ensures.0 refl));
    }

pub returns-clause-none : goal.returns-clause-none
returns-clause-none c = all_good c.args.rules.now c.args.d.now c.loop-i.i (subst (λ xs. length xs ≤ c.loop-i.i) c.as_slice-steps.ensures c.loop-i-test.false) c.loop-i.invariant.earlier

pub returns-clause-some : goal.returns-clause-some
returns-clause-some c = none_bad c.args.rules.now c.args.d.now c.loop-i.i (subst (λ xs. length xs ≤ c.loop-i.i) c.as_slice-steps.ensures c.loop-i-test.false) c.loop-i.invariant.earlier

use Rattle.std.proofs.Common.{◌≡◌, [], ◌∷◌, ap, subst, rules, arith, length, length-append, ◌<◌, ℕ, Option}
use Rattle.std.specs.Prelude.{IfSome}
use Rattle.trs_rules.specs.declared.derivation.DStep.{DStep}
use Rattle.cert_text.specs.Certificates.{IsCertStep}
use Rattle.cert_text.specs.Taking.{Taken}
use Rattle.cert_text.specs.Paths.{path_line, IsAtStep}
use Rattle.cert_text.proofs.whole.Stepping.{no_steps, one_more_step, steps_end, bad_step}
use Rattle.cert_text.proofs.taking.Reader.steps.Goals as goal

pub loop-steps-init : goal.loop-steps-init
loop-steps-init c =
    let empty : c.new-steps.result.items ≡ [] = search rules in
    record {
      counted = c.requires.counted;
      number = (let none = ap length empty in omega (arith, none));
      are = no_steps c.args.sig.now c.args.self.now.rest.now c.new-steps.result.items empty;
    }

pub returns-in-Ok-None-clause-taken : goal.returns-in-Ok-None-clause-taken
returns-in-Ok-None-clause-taken c =
    steps_end c.args.sig.now c.args.self.now.rest.now c.loop-steps.self.rest.now c.loop-steps.steps.items c.loop-steps.invariant.are c.step.new.self.rest.now
    (λ spec k at. subst (λ (o : Option DStep). Taken spec k c.loop-steps.self.rest.now (path_line c.args.sig.now o) c.step.new.self.rest.now) c.in-Ok-None.field-0-is
    (c.in-Ok-None.ensures.taken spec k (subst (λ (n : ℕ). IsAtStep c.args.sig.now n spec k) (search rules) at)))

pub loop-steps-preserved : goal.loop-steps-preserved
loop-steps-preserved c = record {
  counted = c.in-Ok-Some.ensures.counted;
  number = (let a = c.loop-steps.invariant.number in let b = c.in-Ok-Some.ensures.number in let d = ap length c.in-Ok.ensures.items in let e = length-append c.loop-steps.steps.items (c.in-Ok-Some.step ∷ []) in omega (arith, a, b, d, e));
  are =
      let right = subst (λ (o : Option DStep). IfSome o (λ step. IsCertStep c.args.sig.now step × (c.len.result < 100))) c.in-Ok-Some.field-0-is c.in-Ok-Some.ensures.right in
      one_more_step c.args.sig.now c.args.self.now.rest.now c.loop-steps.self.rest.now c.loop-steps.steps.items c.loop-steps.invariant.are c.step.new.self.rest.now c.in-Ok-Some.step c.push.new.self.items
      (λ spec k at. subst (λ (o : Option DStep). Taken spec k c.loop-steps.self.rest.now (path_line c.args.sig.now o) c.step.new.self.rest.now) c.in-Ok-Some.field-0-is
      (c.in-Ok-Some.ensures.taken spec k (subst (λ (n : ℕ). IsAtStep c.args.sig.now n spec k) (search rules) at)))
      (subst (λ (n : ℕ). IsCertStep c.args.sig.now c.in-Ok-Some.step × (n < 100)) (search rules) right) c.in-Ok.ensures.items;
}

pub returns-in-Err-clause-refused : goal.returns-in-Err-clause-refused
returns-in-Err-clause-refused c = λ f is.
    bad_step c.args.sig.now c.args.self.now.rest.now c.loop-steps.self.rest.now c.loop-steps.steps.items c.loop-steps.invariant.are c.args.self.now.line c.step.new.self.line f
    (λ spec k at. c.in-Err.ensures.refused f (cc) spec k (subst (λ (n : ℕ). IsAtStep c.args.sig.now n spec k) (search rules) at)) (let a = c.loop-steps.invariant.number in let b = c.in-Err.ensures.number in omega (arith, a, b))

use Rattle.std.proofs.Common.{◌≡◌, [], ◌∷◌, ap, subst, rules, arith, length, length-append, ℕ}
use Rattle.std.specs.Prelude.{Option, Some, IfSome}
use Rattle.cert_text.specs.Taking.{Taken, closing, IsRightEps}
use Rattle.cert_text.proofs.whole.Going.{first_eps, one_more_eps, to_end, bad_eps}
use Rattle.cert_text.proofs.taking.Reader.all_eps.Goals as goal

pub loop-eps-init : goal.loop-eps-init
loop-eps-init c =
    let one : c.push.new.self.items ≡ c.args.first ∷ [] = search rules in
    record {
      counted = c.requires.counted;
      number = (let many = ap length one in omega (arith, many));
      are = first_eps c.args.first c.args.states.now c.args.self.now.rest.now c.push.new.self.items c.requires.of one;
    }

pub returns-in-Ok-None-clause-taken : goal.returns-in-Ok-None-clause-taken
returns-in-Ok-None-clause-taken c =
    to_end c.args.first c.loop-eps.last c.args.states.now c.args.self.now.rest.now c.loop-eps.self.rest.now c.loop-eps.eps.items c.loop-eps.invariant.are c.after_eps.new.self.rest.now
    (λ spec k at known. subst (λ (o : Option (ℕ × ℕ)). Taken spec k c.loop-eps.self.rest.now (closing o) c.after_eps.new.self.rest.now) c.in-Ok-None.field-0-is (c.in-Ok-None.ensures.taken spec k at known))

pub loop-eps-preserved : goal.loop-eps-preserved
loop-eps-preserved c = record {
  counted = c.in-Ok-Some.ensures.counted;
  number = (let a = c.loop-eps.invariant.number in let b = c.in-Ok-Some.ensures.number in let d = ap length c.in-Ok-push.ensures.items in let e = length-append c.loop-eps.eps.items (c.in-Ok-Some.pair ∷ []) in omega (arith, a, b, d, e));
  are = one_more_eps c.args.first c.loop-eps.last c.args.states.now c.args.self.now.rest.now c.loop-eps.self.rest.now c.loop-eps.eps.items c.loop-eps.invariant.are c.after_eps.new.self.rest.now c.in-Ok-Some.pair c.push-in-Ok-Some.new.self.items
      (λ spec k at known. subst (λ (o : Option (ℕ × ℕ)). Taken spec k c.loop-eps.self.rest.now (closing o) c.after_eps.new.self.rest.now) c.in-Ok-Some.field-0-is (c.in-Ok-Some.ensures.taken spec k at known))
      (subst (λ (o : Option (ℕ × ℕ)). IfSome o (IsRightEps c.args.states.now (Some c.loop-eps.last))) c.in-Ok-Some.field-0-is c.in-Ok-Some.ensures.right) c.in-Ok-push.ensures.items;
}

pub returns-in-Err-after_eps-clause-refused : goal.returns-in-Err-after_eps-clause-refused
returns-in-Err-after_eps-clause-refused c = λ f is.
    bad_eps c.args.first c.loop-eps.last c.args.states.now c.args.self.now.rest.now c.loop-eps.self.rest.now c.loop-eps.eps.items c.loop-eps.invariant.are c.args.self.now.line c.after_eps.new.self.line f
    (c.in-Err-after_eps.ensures.refused f (cc)) (let a = c.loop-eps.invariant.number in let b = c.in-Err-after_eps.ensures.number in omega (arith, a, b))

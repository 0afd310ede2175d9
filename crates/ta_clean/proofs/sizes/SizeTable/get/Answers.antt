use Rattle.std.proofs.Common.{◌≡◌, ◌≤◌, ◌+◌, ◌*◌, sym, ap, subst, ◌∙◌, arith}
use Rattle.std.proofs.lemmas.List.{get_or_default, get_or_past}
use Rattle.ta_clean.specs.Sizes.{Sizing, unmade, made_at}
use Rattle.ta_clean.specs.declared.sizes.Made.{Made}
use Rattle.std.proofs.Math.Nat.{mul-le-mul}
use Rattle.ta_clean.proofs.sizes.SizeTable.get.Goals as goal

pub overflow_mul-place : goal.overflow_mul-place
overflow_mul-place c =
    let first : c.args.first ≤ 4294967296 = omega (arith, c.ranges.first) in
    omega (arith, mul-le-mul first c.self.invariant.narrow)

pub overflow_add-place : goal.overflow_add-place
overflow_add-place c =
    let first : c.args.first ≤ 4294967296 = omega (arith, c.ranges.first) in
    omega (arith, mul-le-mul first c.self.invariant.narrow, c.ranges.second)

pub returns-then-place-len-clause-value : goal.returns-then-place-len-clause-value
returns-then-place-len-clause-value c =
    let items = c.self.inside.made.items in
    let n = c.args.first * c.self.inside.width + c.args.second in
    subst (λ (s : Sizing). c.index.result.now ≡ made_at s (c.args.first, c.args.second)) c.self.view_is
    (sym (get_or_default items n unmade c.index.result.now (omega (arith, c.if-place-len.true, c.len.ensures, c.self.inside.made.ok.0)) ∙ sym c.index.ensures))

pub returns-then-place-len-clause-capped : goal.returns-then-place-len-clause-capped
returns-then-place-len-clause-capped c =
    let items = c.self.inside.made.items in
    let n = c.args.first * c.self.inside.width + c.args.second in
    omega (arith, ap (λ (m : Made). m.size) c.index.ensures, c.self.invariant.capped n c.index.result.now (omega (arith, c.if-place-len.true, c.len.ensures, c.self.inside.made.ok.0)))

pub returns-clause-value : goal.returns-clause-value
returns-clause-value c =
    let items = c.self.inside.made.items in
    let n = c.args.first * c.self.inside.width + c.args.second in
    subst (λ (s : Sizing). unmade ≡ made_at s (c.args.first, c.args.second)) c.self.view_is
    (sym (get_or_past items n unmade (omega (arith, c.if-place-len.false, c.len.ensures, c.self.inside.made.ok.0))))

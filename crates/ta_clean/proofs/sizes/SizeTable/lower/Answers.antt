use Rattle.std.proofs.Common.{◌≤◌, sym, subst, arith}
use Rattle.std.proofs.Math.Nat.{mul-le-mul}
use Rattle.ta_clean.specs.Sizes.{Sizing, IsPairOf}
use Rattle.ta_clean.proofs.least.Sizing.{within}
use Rattle.ta_clean.proofs.sizes.SizeTable.lower.Goals as goal

pub overflow_mul-place : goal.overflow_mul-place
overflow_mul-place c =
    let first : c.args.first ≤ 4294967296 = omega (arith, c.ranges.first) in
    omega (arith, mul-le-mul first c.self.invariant.narrow)

pub overflow_add-place : goal.overflow_add-place
overflow_add-place c =
    let first : c.args.first ≤ 4294967296 = omega (arith, c.ranges.first) in
    omega (arith, mul-le-mul first c.self.invariant.narrow, c.ranges.second)

pub index-requires : goal.index-requires
index-requires c =
    let table : Sizing = record { height = c.self.inside.height; width = c.self.inside.width; made = c.self.inside.made.items } in
    omega (arith, within table (c.args.first, c.args.second) c.self.invariant (subst (λ (s : Sizing). IsPairOf s (c.args.first, c.args.second)) (sym c.self.view_is) c.requires), c.self.inside.made.ok.0)

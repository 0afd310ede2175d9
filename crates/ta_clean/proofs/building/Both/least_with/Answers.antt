use Rattle.std.proofs.Common.{◌≤◌, ◌<◌, ℕ, List, get_or, Contains, sym, ap, subst, ◌∙◌, arith}
use Rattle.std.proofs.lemmas.List.Elements.{Contains-get_or}
use Rattle.ta_clean.specs.Products.{TwoAutomata}
use Rattle.ta_clean.specs.Sizes.{size_at}
use Rattle.ta_clean.specs.declared.sizes.Made.{Made}
use Rattle.ta_clean.proofs.least.Building.{least_then, least_else, at_each}
use Rattle.ta_clean.proofs.building.Both.least_with.Goals as goal
use Rattle.ta_clean.proofs.building.Both.least_with.Goals.{then-get, else-get}

pub loop-other-preserved : goal.loop-other-preserved
loop-other-preserved c =
    let s = c.args.sizes.now in
    let items = c.finals-other-items.result.now in
    let k = c.loop-other.other-index in
    let at = ap (λ (m : Made). m.size) c.get.ensures.value in
    let now = ap (λ (m : Made). m.size) c.get-in-loop-other.ensures.value in
    let has = subst (λ (both : TwoAutomata). Contains both.second.finals (get_or items k 0)) c.self.view_is (subst (λ (qs : List ℕ). Contains qs (get_or items k 0)) c.finals-other-items.ensures.value (Contains-get_or items k 0 c.loop-other-test.true)) in
    elim c.if-get.branch [
      | then-get w ↦
          let less : size_at s (c.args.state, get_or items k 0) < size_at s (c.loop-other.first, c.loop-other.second) = omega (arith, w.if-get.true, at, now) in
          rw (w.first-is, w.second-is) (record { first = c.requires.state; second = has; falls = omega (arith, less, c.loop-other.invariant.falls); least = least_then s items k c.args.state c.loop-other.first c.loop-other.second less c.loop-other.invariant.least })
      | else-get w ↦
          rw (w.first-is, w.second-is) (record { first = c.loop-other.invariant.first; second = c.loop-other.invariant.second; falls = c.loop-other.invariant.falls; least = least_else s items k c.args.state c.loop-other.first c.loop-other.second (omega (arith, w.if-get.false, at, now)) c.loop-other.invariant.least })
    ]

pub returns-clause-least : goal.returns-clause-least
returns-clause-least c =
    let s = c.args.sizes.now in
    let items = c.finals-other-items.result.now in
    let is = c.finals-other-items.ensures.value ∙ ap (λ (both : TwoAutomata). both.second.finals) c.self.view_is in
    λ q i. at_each (λ q. size_at s (c.loop-other.first, c.loop-other.second) ≤ size_at s (c.args.state, q)) items c.loop-other.other-index c.loop-other-test.false c.loop-other.invariant.least q (subst (λ (qs : List ℕ). Contains qs q) (sym is) i)

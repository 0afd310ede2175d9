use Rattle.std.proofs.Common.{◌≤◌, ℕ, List, get_or, Contains, sym, ap, subst, ◌∙◌, arith}
use Rattle.std.proofs.lemmas.List.Elements.{Contains-get_or}
use Rattle.ta_clean.specs.Products.{TwoAutomata}
use Rattle.ta_clean.specs.Sizes.{size_at}
use Rattle.ta_clean.proofs.least.Building.{at_each, each_more}
use Rattle.ta_clean.proofs.building.Both.least_final.Goals as goal

pub least_with-least-requires-clause-state : goal.least_with-least-requires-clause-state
least_with-least-requires-clause-state c =
    let items = c.finals-state-items.result.now in
    let k = c.loop-state.state-index in
    subst (λ (both : TwoAutomata). Contains both.first.finals (get_or items k 0)) c.self.view_is (subst (λ (qs : List ℕ). Contains qs (get_or items k 0)) c.finals-state-items.ensures.value (Contains-get_or items k 0 c.loop-state-test.true))

pub loop-state-preserved : goal.loop-state-preserved
loop-state-preserved c =
    let s = c.args.sizes.now in
    let items = c.finals-state-items.result.now in
    let k = c.loop-state.state-index in
    let next = c.least_with-least in
    record {
      first = next.ensures.first;
      second = next.ensures.second;
      least = λ j q l i. each_more (λ p. size_at s next.result ≤ size_at s (p, q)) items k (λ j l. let e = c.loop-state.invariant.least j q l i in omega (arith, e, next.ensures.falls)) (next.ensures.least q i) j l;
    }

pub returns : goal.returns
returns c =
    let s = c.args.sizes.now in
    let items = c.finals-state-items.result.now in
    let is = c.finals-state-items.ensures.value ∙ ap (λ (both : TwoAutomata). both.first.finals) c.self.view_is in
    record {
      first = c.loop-state.invariant.first;
      second = c.loop-state.invariant.second;
      least = λ p q i j. at_each (λ p. size_at s c.loop-state.least ≤ size_at s (p, q)) items c.loop-state.state-index c.loop-state-test.false (λ k l. c.loop-state.invariant.least k q l j) p (subst (λ (qs : List ℕ). Contains qs p) (sym is) i);
    }

use Rattle.std.proofs.Common.{◌≡◌, ℕ, List, subst, ◌∙◌, arith}
use Rattle.std.specs.List.{All}
use Rattle.std.proofs.lemmas.List.{take_all}
use Rattle.normalise.proofs.Asking.{asked_first}
use Rattle.normalise.proofs.fitting.bind.Goals as goal

pub returns-clause-yes : goal.returns-clause-yes
returns-clause-yes c = λ yes.
    let whole = take_all c.loop-pair.pair-index c.as_slice-pair-items.result.now (omega (arith, c.loop-pair-test.false)) ∙ c.as_slice-pair-items.ensures.value in
    asked_first c.args.asked.now.items c.push.new.self.items c.args.var c.args.state c.requires
    (subst (λ (bs : List (ℕ × ℕ)). All (λ (b : ℕ × ℕ). b.0 ≡ c.args.var → ⊥) bs) whole c.loop-pair.invariant) c.in_ok-push.ensures.items

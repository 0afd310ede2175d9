use Rattle.std.proofs.Common.{◌≤◌, length, take, ap, sym, subst, ◌∙◌, arith}
use Rattle.ranked_terms.specs.Matching.{filled, bound_in, Once}
use Rattle.ranked_terms.proofs.bindings.BindingLaws.{Once-take}
use Rattle.ranked_terms.proofs.bindings.MatchingLaws.{filled_front}
use Rattle.ranked_terms.proofs.binding.Binding.truncate.Goals as goal

pub invariant_of-self : goal.invariant_of-self
invariant_of-self c =
    let le : c.args.len ≤ c.self.inside.len = omega (arith, ap length c.self.view_is, c.self.invariant.1) in
    let front = filled_front c.self.inside.slots c.args.len c.self.inside.len le c.self.invariant.1 in (
      omega (arith, c.self.invariant.0),
      front.1,
      subst (λ b. Once (bound_in b)) (sym front.0) (Once-take (filled (take c.self.inside.len c.self.inside.slots)) c.args.len c.self.invariant.2),
    )

pub returns : goal.returns
returns c =
    let le : c.args.len ≤ c.self.inside.len = omega (arith, ap length c.self.view_is, c.self.invariant.1) in
    (filled_front c.self.inside.slots c.args.len c.self.inside.len le c.self.invariant.1).0 ∙ ap (take c.args.len) c.self.view_is

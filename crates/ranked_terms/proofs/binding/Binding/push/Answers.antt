use Rattle.std.proofs.Common.{◌<◌, ◌+◌, [], ◌∷◌, ◌++◌, length, take, Some, ap, ◌∙◌, arith, length-append}
use Rattle.std.proofs.lemmas.List.{take_more_set}
use Rattle.ranked_terms.specs.Matching.{filled}
use Rattle.ranked_terms.proofs.bindings.MatchingLaws.{filled-append}
use Rattle.ranked_terms.proofs.binding.Binding.push.Goals as goal
use Rattle.std.proofs.Common.{sym, subst}
use Rattle.ranked_terms.specs.Matching.{bound_in, lookup, Once}
use Rattle.ranked_terms.proofs.bindings.BindingLaws.{Once-bound}

pub returns : goal.returns
returns c =
    let at = c.self.inside.len in let slots = c.self.inside.slots in
    let room : at < length slots = omega (arith, ap length c.self.view_is, c.self.invariant.1, c.requires.room) in
    ap filled (take_more_set slots at (Some (c.args.variable, c.args.t)) room) ∙ (filled-append (take at slots) (Some (c.args.variable, c.args.t) ∷ []) ∙ ap (λ b. b ++ (c.args.variable, c.args.t.now) ∷ []) c.self.view_is)

pub invariant_of-self : goal.invariant_of-self
invariant_of-self c =
    let at = c.self.inside.len in let slots = c.self.inside.slots in
    let room : at < length slots = omega (arith, ap length c.self.view_is, c.self.invariant.1, c.requires.room) in
    let e = ap filled (take_more_set slots at (Some (c.args.variable, c.args.t)) room) ∙ filled-append (take at slots) (Some (c.args.variable, c.args.t) ∷ []) in (
      omega (arith, ap length c.self.view_is, c.self.invariant.1, c.requires.room),
      ap length e ∙ (length-append (filled (take at slots)) ((c.args.variable, c.args.t.now) ∷ []) ∙ ap (λ n. n + 1) c.self.invariant.1),
      subst (λ b. Once (bound_in b)) (sym e) (Once-bound (filled (take at slots)) c.args.variable c.args.t.now c.self.invariant.2 (ap (λ b. lookup b c.args.variable) c.self.view_is ∙ c.requires.new)),
    )

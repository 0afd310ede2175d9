use Rattle.std.proofs.Common.{◌↔◌, ◌≤◌, [], length, refl, sym, subst}
use Rattle.std.specs.Prelude.{IsTrue, false}
use Rattle.ranked_terms.specs.Matching.{IsInstance, IsBoundBy, bound_with}
use Rattle.trs_rules.proofs.steps.RootLaws.{room_right, as_step, no_step}
use Rattle.trs_rules.proofs.step.is_root_step.Goals as goal

pub returns-then-not-match_term : goal.returns-then-not-match_term
returns-then-not-match_term c =
    let rule = c.args.rule.now in let s = c.args.s.now in
    let other : IsInstance rule.left s [] → ⊥ = λ h.
    let x : IsTrue false = c.if-not-match_term.ensures.exactly.1 (subst (λ p. IsInstance p s c.new-binding.result) (sym c.left.ensures.side) (subst (IsInstance rule.left s) (sym c.new-binding.ensures) h)) in cc in
    (λ x. absurd (cc), λ h. absurd (no_step rule c.left.ensures.rule s c.args.t.now [] other h))

pub match_term-requires-2 : goal.match_term-requires-2
match_term-requires-2 c =
    let rule = c.args.rule.now in let s = c.args.s.now in let b = c.match_term.new.b in
    let m = subst (λ p. IsBoundBy p s [] b) c.left.ensures.side (subst (λ xs. IsBoundBy c.left.result.now s xs b) c.new-binding.ensures (c.if-not-match_term.ensures.bound refl)) in
    subst (λ p. length (bound_with b p) ≤ 16) (sym c.right.ensures.side) (room_right rule c.left.ensures.rule s c.args.t.now b m)

pub returns : goal.returns
returns c =
    let rule = c.args.rule.now in let s = c.args.s.now in let t = c.args.t.now in let b = c.match_term.new.b in
    let m = subst (λ p. IsBoundBy p s [] b) c.left.ensures.side (subst (λ xs. IsBoundBy c.left.result.now s xs b) c.new-binding.ensures (c.if-not-match_term.ensures.bound refl)) in
    let step = as_step rule c.left.ensures.rule s t b m in
    let told = subst (λ p. IsTrue c.match_term-2.result ↔ IsInstance p t b) c.right.ensures.side c.match_term-2.ensures.exactly in
    (λ x. step.0 (told.0 x), λ h. told.1 (step.1 h))

use Rattle.std.proofs.Common.{[], refl, sym, subst, false}
use Rattle.std.specs.Prelude.{IsTrue, Contains}
use Rattle.ranked_terms.specs.Terms.{occurrences}
use Rattle.ranked_terms.specs.Matching.{IsInstance, IsBoundBy, IsInstanceBy}
use Rattle.trs_rules.proofs.chains.DerivationLaws.{at_place}
use Rattle.trs_rules.proofs.steps.SuccessorLaws.{no_position, no_match, rewritten, right_is_bound}
use Rattle.trs_rules.proofs.successor.rewrite_at.Goals as goal

pub returns-in_default : goal.returns-in_default
returns-in_default c =
    let R = c.args.rules.now in let rule = c.index-rules-rule.result in
    no_position R c.args.rule rule c.args.at.now c.args.t.now (at_place R c.args.rule rule c.requires c.index-rules-rule.is) c.in_default.ensures

pub returns-then-not-match_term : goal.returns-then-not-match_term
returns-then-not-match_term c =
    let R = c.args.rules.now in let rule = c.index-rules-rule.result in let u = c.in-Some.inner.now in
    let other : IsInstance rule.left u [] → ⊥ = λ h.
    let x : IsTrue false = c.if-not-match_term.ensures.exactly.1 (subst (λ p. IsInstance p u c.new-binding.result) (sym c.left.ensures.side) (subst (IsInstance rule.left u) (sym c.new-binding.ensures) h)) in cc in
    no_match R c.args.rule rule c.args.at.now c.args.t.now (at_place R c.args.rule rule c.requires c.index-rules-rule.is) u c.in-Some.ensures other

pub instance-requires : goal.instance-requires
instance-requires c v has =
    let rule = c.index-rules-rule.result in let u = c.in-Some.inner.now in let b = c.match_term.new.b in
    let m = subst (λ p. IsBoundBy p u [] b) c.left.ensures.side (subst (λ xs. IsBoundBy c.left.result.now u xs b) c.new-binding.ensures (c.if-not-match_term.ensures.bound refl)) in
    right_is_bound rule u b c.left.ensures.rule m v (subst (λ p. Contains (occurrences p) v) c.right.ensures.side has)

pub returns : goal.returns
returns c =
    let R = c.args.rules.now in let rule = c.index-rules-rule.result in let u = c.in-Some.inner.now in let b = c.match_term.new.b in
    let m = subst (λ p. IsBoundBy p u [] b) c.left.ensures.side (subst (λ xs. IsBoundBy c.left.result.now u xs b) c.new-binding.ensures (c.if-not-match_term.ensures.bound refl)) in
    let made = subst (λ p. IsInstanceBy p b c.in_ok-made.made) c.right.ensures.side c.in_ok-made.ensures in
    rewritten R c.args.rule rule c.args.at.now c.args.t.now (at_place R c.args.rule rule c.requires c.index-rules-rule.is) u c.in-Some.ensures b c.in_ok-made.made c.in_ok-replaced.replaced m made c.in_ok-replaced.ensures

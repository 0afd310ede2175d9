use Rattle.std.proofs.Common.{◌≡◌, ◌≤◌, ◌↔◌, ◌⊎◌, ℕ, List, length, All, Contains, sym, ap, subst, ◌∙◌, ⊎_elim, inl, inr}
use Rattle.list_laws.proofs.Members.{none, all_from_members}
use Rattle.ranked_terms.specs.Terms.{variables_of}
use Rattle.ranked_terms.specs.declared.term.Pattern.{Pattern}
use Rattle.trs_rules.specs.Rules.{RewriteEquation}
use Rattle.ta_core.specs.declared.trans.Trans.{Trans}
use Rattle.ta_core.specs.TreeAutomaton.{TreeAutomaton, bare}
use Rattle.eq_merge.specs.Ends.{AreShared, AreEnds, EndsAt}
use Rattle.eq_merge.proofs.finding.Equating.{few_left, few_right}
use Rattle.eq_merge.proofs.ends.ends_of.Goals as goal

-- the ends of a side come to those that are there
abbrev AddsSide : TreeAutomaton → ℕ → Pattern → List ℕ → List Trans → List Trans → Type 0
AddsSide A side p shared old new = (t : Trans) → Contains new t ↔ (Contains old t ⊎ ((t.sym ≡ side) × EndsAt A p shared t.args t.to))

-- told of the same side and the same variables
same_side : (A : TreeAutomaton) (side : ℕ) (p p' : Pattern) (s s' : List ℕ) (old new : List Trans) → p ≡ p' → s ≡ s' → AddsSide A side p s old new → AddsSide A side p' s' old new
same_side A side p p' s s' old new e f h t = subst (λ x. Contains new t ↔ (Contains old t ⊎ ((t.sym ≡ side) × EndsAt A p' x t.args t.to))) f
    (subst (λ x. Contains new t ↔ (Contains old t ⊎ ((t.sym ≡ side) × EndsAt A x s t.args t.to))) e (h t))

-- the variables that are shared stand in the side
all_shared : (p p' : Pattern) (s s' : List ℕ) → p ≡ p' → s ≡ s' → ((v : ℕ) → Contains s' v → Contains (variables_of p') v) → All (Contains (variables_of p)) s
all_shared p p' s s' e f has = subst (λ xs. All (Contains (variables_of p)) xs) (sym f) (subst (λ x. All (Contains (variables_of x)) s') (sym e) (all_from_members (Contains (variables_of p')) s' has))

-- the ends of both sides
both_sides : (A : TreeAutomaton) (e : RewriteEquation) (shared : List ℕ) (B C D : TreeAutomaton) → AreShared e shared → B ≡ bare A.next A.states →
    AddsSide A 0 e.left shared B.trans C.trans → C ≡ record B { trans = C.trans } → AddsSide A 1 e.right shared C.trans D.trans → D ≡ record C { trans = D.trans } → AreEnds A e D
both_sides A e shared B C D are b u c w d = record {
  shared = shared;
  are_shared = are;
  next = ap (λ (X : TreeAutomaton). X.next) d ∙ (ap (λ (X : TreeAutomaton). X.next) c ∙ ap (λ (X : TreeAutomaton). X.next) b);
  exact = λ t. (
    λ i. ⊎_elim
        (λ j. ⊎_elim (λ k. absurd (none t (subst (λ ts. Contains ts t) (ap (λ (X : TreeAutomaton). X.trans) b) k))) (λ k. inl k) ((u t).0 j))
        (λ j. inr j) ((w t).0 i),
    λ h. (w t).1 (⊎_elim (λ x. inl ((u t).1 (inr x))) (λ x. inr x) h),
  );
}

pub add_side-requires-clause-few : goal.add_side-requires-clause-few
add_side-requires-clause-few c = subst (λ p. length (variables_of p) ≤ 16) (sym c.left.ensures.side) (few_left c.args.equation.now c.left.ensures.equation)

pub add_side-requires-clause-shared : goal.add_side-requires-clause-shared
add_side-requires-clause-shared c =
    all_shared c.left.result.now c.args.equation.now.left c.as_slice.result.now c.in_ok-shared.shared c.left.ensures.side c.as_slice.ensures (λ v i. ((c.in_ok-shared.ensures v).0 i).0)

pub add_side-requires-clause-states : goal.add_side-requires-clause-states
add_side-requires-clause-states c =
    ap (λ (X : TreeAutomaton). X.states) c.in_ok-ends.ensures ∙ (c.states.ensures.value ∙ ap (λ (X : TreeAutomaton). X.states) c.automaton-automaton.ensures)

pub add_side-requires-2-clause-few : goal.add_side-requires-2-clause-few
add_side-requires-2-clause-few c = subst (λ p. length (variables_of p) ≤ 16) (sym c.right.ensures.side) (few_right c.args.equation.now c.left.ensures.equation)

pub add_side-requires-2-clause-shared : goal.add_side-requires-2-clause-shared
add_side-requires-2-clause-shared c =
    all_shared c.right.result.now c.args.equation.now.right c.as_slice-2.result.now c.in_ok-shared.shared c.right.ensures.side c.as_slice-2.ensures (λ v i. ((c.in_ok-shared.ensures v).0 i).1)

pub add_side-requires-2-clause-states : goal.add_side-requires-2-clause-states
add_side-requires-2-clause-states c =
    ap (λ (X : TreeAutomaton). X.states) c.in_ok-add_side.ensures.rest ∙
    (ap (λ (X : TreeAutomaton). X.states) c.in_ok-ends.ensures ∙ (c.states.ensures.value ∙ ap (λ (X : TreeAutomaton). X.states) c.automaton-automaton.ensures))

pub returns : goal.returns
returns c =
    let A = c.args.matcher.now in
    let e = c.args.equation.now in
    let B = c.in_ok-ends.ends in
    let C = c.add_side.new.ends in
    let D = c.add_side-2.new.ends in
    both_sides A e c.in_ok-shared.shared B C D c.in_ok-shared.ensures
    (c.in_ok-ends.ensures ∙ ((λ i. bare (c.next.ensures.value i) (c.states.ensures.value i)) ∙ ap (λ (X : TreeAutomaton). bare X.next X.states) c.automaton-automaton.ensures))
    (same_side A 0 c.left.result.now e.left c.as_slice.result.now c.in_ok-shared.shared B.trans C.trans c.left.ensures.side c.as_slice.ensures c.in_ok-add_side.ensures.members)
    c.in_ok-add_side.ensures.rest
    (same_side A 1 c.right.result.now e.right c.as_slice-2.result.now c.in_ok-shared.shared C.trans D.trans c.right.ensures.side c.as_slice-2.ensures c.in_ok-add_side-2.ensures.members)
    c.in_ok-add_side-2.ensures.rest

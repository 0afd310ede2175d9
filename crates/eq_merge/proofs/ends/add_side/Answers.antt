use Rattle.std.proofs.Common.{ℕ, All, Contains, sym, subst, ⊎_elim, inl, inr}
use Rattle.std.proofs.lemmas.List.Elements.{All-contains}
use Rattle.list_laws.proofs.Members.{all_from_members}
use Rattle.ranked_terms.specs.Terms.{variables_of}
use Rattle.ta_core.specs.TreeAutomaton.{IsSound, IsTransOf}
use Rattle.eq_merge.proofs.finding.Equating.{end_states}
use Rattle.eq_merge.proofs.finding.Leading.{on_ok}
use Rattle.eq_merge.proofs.ends.add_side.Goals as goal

-- the ends of a side lead from states to states
pub add_all_trans-requires : goal.add_all_trans-requires
add_all_trans-requires c =
    let A = c.args.matcher.now in
    let ends = c.in_ok-side_ends.field-0 in
    let has : (v : ℕ) → Contains c.args.shared.now v → Contains (variables_of c.args.pattern.now) v = λ v i. All-contains (Contains (variables_of c.args.pattern.now)) c.args.shared.now v c.requires.shared i in
    subst (λ S. All (IsTransOf S) ends) (sym c.requires.states)
    (all_from_members (IsTransOf A.states) ends (λ t i. end_states (subst IsSound c.automaton.ensures c.next.ensures.sound) c.args.pattern.now c.args.shared.now has t ((c.in_ok-side_ends.ensures t).0 i).1))

pub returns-clause-members : goal.returns-clause-members
returns-clause-members c =
    on_ok c.add_all_trans.result (λ union t. (
      λ i. ⊎_elim (λ o. inl o) (λ m. inr ((c.in_ok-side_ends.ensures t).0 m)) ((union t).0 i),
      λ x. (union t).1 (⊎_elim (λ o. inl o) (λ m. inr ((c.in_ok-side_ends.ensures t).1 m)) x),
    )) c.add_all_trans.ensures.members

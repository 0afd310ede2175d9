use Rattle.std.proofs.Common.{◌≡◌, false, true≢false, Result, Ok, Err, OnOk, sym, subst, ◌∙◌, ⊎_elim, inl, inr}
use Rattle.std.specs.List.{Contains}
use Rattle.std.specs.Result.{is_err}
use Rattle.std.proofs.lemmas.List.Filters.{dedup_is}
use Rattle.std.proofs.lemmas.List.Kept.{IsStrictlySortedBy-dedup, Contains-dedup, Contains-from_dedup}
use Rattle.std.proofs.lemmas.List.Sorted.{Contains-permutation, IsPermutation-sym}
use Rattle.std.proofs.lemmas.List.Elements.{Contains-append_left, Contains-append_right, Contains-append_cases}
use Rattle.list_laws.proofs.Inserting.{same_from_cmp}
use Rattle.ta_core.proofs.sorted.Sorted.add_all.Goals as goal

when_ok : {B E P : Type 0} (r : Result B E) → is_err r ≡ false → OnOk r P → P
when_ok (Ok x) e p = p
when_ok (Err x) e p = absurd (true≢false e)

pub invariant_of-self-2 : goal.invariant_of-self-2
invariant_of-self-2 g c =
    rw (dedup_is _ _ _ c.dedup.ensures.filtered)
    (IsStrictlySortedBy-dedup g.met.T.Ord.total g.met.T.Ord.matches_eq _ (when_ok c.sort.result (sym c.is_err.ensures.value ∙ c.if-is_err.false) c.sort.ensures.sorted))

pub returns-clause-sorted : goal.returns-clause-sorted
returns-clause-sorted g c = invariant_of-self-2 g c

pub returns-clause-members : goal.returns-clause-members
returns-clause-members g c x =
    let is = dedup_is _ _ _ c.dedup.ensures.filtered in
    let moved = c.sort.ensures.permutation in
    let in_order = c.sort_unstable.ensures.permutation in
    let joined = c.in_ok-append.ensures.items in (
      λ h. rw (← c.self.view_is)
          (⊎_elim (λ i. inl i) (λ i. inr (Contains-permutation _ _ x (IsPermutation-sym _ _ in_order) i))
          (Contains-append_cases _ _ x (subst (λ all. Contains all x) joined (Contains-permutation _ _ x (IsPermutation-sym _ _ moved) (Contains-from_dedup _ _ x (rw is at h)))))),
      λ either. rw is (Contains-dedup g.met.T.Eq.laws (same_from_cmp g.met.T.Ord.matches_eq c.requires) _ x (Contains-permutation _ _ x moved (subst (λ all. Contains all x) (sym joined)
          (⊎_elim (λ i. Contains-append_left _ _ x (rw (← c.self.view_is) at i)) (λ i. Contains-append_right _ _ x (Contains-permutation _ _ x in_order i)) either)))),
    )

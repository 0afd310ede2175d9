-- The first member with a property, in a list that ascends, is the least.
use Rattle.std.proofs.Common.{◌≡◌, ◌+◌, ◌<◌, ◌≤◌, ◌∙◌, ℕ, List, length, get_or, Contains, sym, ap, subst, inl, inr, ⊎_elim, arith}
use Rattle.std.specs.Ordering.{nat_cmp}
use Rattle.std.specs.List.Sorted.{IsStrictlySortedBy}
use Rattle.std.proofs.Math.Nat.{eq-or-lt_of_le}
use Rattle.std.proofs.lemmas.Bool.{cases_lt}
use Rattle.std.proofs.lemmas.Bool.Decides.{nat_tests}
use Rattle.std.proofs.lemmas.List.{get_or_default}
use Rattle.std.proofs.lemmas.List.Elements.{Contains-get_or}
use Rattle.std.proofs.lemmas.Map.Keys.{Less-from_sorted}
use Rattle.std.specs.declared.cmp.Ordering.TheVariants.{Less}
use Rattle.ta_core.specs.TreeAutomaton.{TreeAutomaton}
use Rattle.ta_core.specs.Meeting.{Meets}
use Rattle.ta_clean.specs.Meeting.{FinalsMeet, IsLeastMeeting}
use Rattle.ta_clean.specs.Walking.{IsLeastIn}

below : (m n : ℕ) → nat_cmp m n ≡ Less → m < n
below m n e = grind (arith, nat_tests)

module _ (xs : List ℕ) (ascends : IsStrictlySortedBy nat_cmp xs) (k : ℕ) (inside : k < length xs) where
  -- what stands at the place or behind it is no less
  pub no_less : (j : ℕ) → k ≤ j → j < length xs → get_or xs k 0 ≤ get_or xs j 0
  no_less j low high =
      ⊎_elim (λ same. subst (λ n. get_or xs k 0 ≤ get_or xs n 0) same (omega arith)) (λ before. let l = below (get_or xs k 0) (get_or xs j 0) (Less-from_sorted nat_cmp xs k j 0 ascends before high) in omega (arith, l)) (eq-or-lt_of_le low)

  pub strictly_less : (j : ℕ) → k < j → j < length xs → get_or xs k 0 < get_or xs j 0
  strictly_less j low high = below _ _ (Less-from_sorted nat_cmp xs k j 0 ascends low high)

  module _ (P : ℕ → Type 0) (is : P (get_or xs k 0)) (none : (j : ℕ) → j < k → P (get_or xs j 0) → ⊥) where
    pub least_here : IsLeastIn P xs (get_or xs k 0)
    least_here = record {
      has = Contains-get_or xs k 0 inside;
      is = is;
      least = λ s i p.
          let at : get_or xs i.0 0 ≡ s = get_or_default xs i.0 0 s i.1 ∙ i.2 in
          ⊎_elim (λ before. absurd (none i.0 before (subst P (sym at) p))) (λ from. subst (λ n. get_or xs k 0 ≤ n) at (no_less i.0 from i.1)) (cases_lt i.0 k);
    }

-- one more, and none of all
pub none_more : (P : ℕ → Type 0) (k : ℕ) (xs : List ℕ) → ((j : ℕ) → j < k → P (get_or xs j 0) → ⊥) → (P (get_or xs k 0) → ⊥) → (j : ℕ) → j < k + 1 → P (get_or xs j 0) → ⊥
none_more P k xs before here j l p = ⊎_elim (λ b. before j b p) (λ last. let same : j ≡ k = omega (arith, l, last) in here (subst (λ n. P (get_or xs n 0)) same p)) (cases_lt j k)

pub none_at_all : (P : ℕ → Type 0) (k : ℕ) (xs : List ℕ) → length xs ≤ k → ((j : ℕ) → j < k → P (get_or xs j 0) → ⊥) → (q : ℕ) → Contains xs q → P q → ⊥
none_at_all P k xs l none q i p = none i.0 (omega (arith, i.1, l)) (subst P (sym (get_or_default xs i.0 0 q i.1 ∙ i.2)) p)

-- no final state meets the first ones
abbrev pub NoneMeets : TreeAutomaton → TreeAutomaton → ℕ → Type 0
NoneMeets A B p = (q : ℕ) → Contains B.finals q → Meets A B (p, q) → ⊥

-- the least pair, where no final state before this one meets
pub least_pair : (A B : TreeAutomaton) (k : ℕ) (q : ℕ) → IsStrictlySortedBy nat_cmp A.finals → k < length A.finals → ((j : ℕ) → j < k → NoneMeets A B (get_or A.finals j 0)) →
    IsLeastIn (λ q. Meets A B (get_or A.finals k 0, q)) B.finals q → IsLeastMeeting A B (get_or A.finals k 0) q
least_pair A B k q ascends inside none here = record {
  meet = record { first = Contains-get_or A.finals k 0 inside; second = here.has; meets = here.is };
  least = λ r s m.
      let i = m.first in
      let at : get_or A.finals i.0 0 ≡ r = get_or_default A.finals i.0 0 r i.1 ∙ i.2 in
      ⊎_elim
      (λ before. absurd (none i.0 before s m.second (subst (λ n. Meets A B (n, s)) (sym at) m.meets)))
      (λ from. ⊎_elim
      (λ same.
      let e : get_or A.finals k 0 ≡ r = ap (λ n. get_or A.finals n 0) same ∙ at in
      inr (e, here.least s m.second (subst (λ n. Meets A B (n, s)) (sym e) m.meets)))
      (λ behind. inl (subst (λ n. get_or A.finals k 0 < n) at (strictly_less A.finals ascends k inside i.0 behind i.1)))
      (eq-or-lt_of_le from))
      (cases_lt i.0 k);
}

pub no_pair : (A B : TreeAutomaton) (k : ℕ) → length A.finals ≤ k → ((j : ℕ) → j < k → NoneMeets A B (get_or A.finals j 0)) → (p q : ℕ) → FinalsMeet A B p q → ⊥
no_pair A B k l none p q m =
    let i = m.first in
    none i.0 (omega (arith, i.1, l)) q m.second (subst (λ n. Meets A B (n, q)) (sym (get_or_default A.finals i.0 0 p i.1 ∙ i.2)) m.meets)

pub nones_more : (A B : TreeAutomaton) (k : ℕ) → ((j : ℕ) → j < k → NoneMeets A B (get_or A.finals j 0)) → NoneMeets A B (get_or A.finals k 0) → (j : ℕ) → j < k + 1 → NoneMeets A B (get_or A.finals j 0)
nones_more A B k before here j l = ⊎_elim (λ b. before j b) (λ last. let same : k ≡ j = omega (arith, l, last) in subst (λ n. NoneMeets A B (get_or A.finals n 0)) same here) (cases_lt j k)

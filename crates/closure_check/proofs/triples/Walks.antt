-- A walk over some members of a list that ascends: the others are settled.
use Rattle.std.proofs.Common.{◌≡◌, ℕ, ◌+◌, ◌<◌, ◌≤◌, ◌==◌, Bool, true, false, List, ◌∷◌, ◌++◌, get_or, length, take, drop, All, Contains, refl, sym, ap, subst, ◌∙◌, ⊎_elim, true≢false, arith}
use Rattle.std.specs.Ordering.{nat_cmp}
use Rattle.std.specs.List.{list_any}
use Rattle.std.specs.List.Sorted.{IsNonDecreasingBy, IsStrictlySortedBy}
use Rattle.std.proofs.lemmas.Bool.{cases_lt}
use Rattle.std.proofs.lemmas.List.{take_all, take-append-drop, drop_more, get_or-take, get_or_default, length-take-le}
use Rattle.std.proofs.lemmas.List.Elements.{All-contains, Contains-get_or}
use Rattle.std.proofs.lemmas.Map.Keys.{below_from_sorted}
use Rattle.list_laws.proofs.Members.{all_from_members}
use Rattle.list_laws.proofs.Members.{is_member}

-- the list up to an element, which are all settled
pub record Ends (S : ℕ → Type 0) (xs : List ℕ) (q : ℕ) : Type 0 where
  pub before : List ℕ
  pub after : List ℕ
  pub splits : xs ≡ before ++ q ∷ after
  pub earlier : All S before

-- those that were gone over are settled, as far as they stand in the list
abbrev pub Walked : (ℕ → Type 0) → List ℕ → List ℕ → ℕ → Type 0
Walked S xs cs k = All (λ c. Contains xs c → S c) (take k cs)

module _ (S : ℕ → Type 0) (xs cs : List ℕ) (others : (p : ℕ) → Contains xs p → (Contains cs p → ⊥) → S p) where
  either : (p : ℕ) → Contains xs p → (Contains cs p → S p) → (b : Bool) → list_any (λ y. p == y) cs ≡ b → S p
  either p i there true e = there ((is_member cs p true (sym e)).0 refl)
  either p i there false e = others p i (λ h. true≢false (sym ((is_member cs p false (sym e)).1 h)))

  pub all_walked : (k : ℕ) → length cs ≤ k → Walked S xs cs k → All S xs
  all_walked k le walked =
      all_from_members S xs (λ p i. either p i (λ h. All-contains (λ c. Contains xs c → S c) cs p (subst (All (λ c. Contains xs c → S c)) (take_all k cs le) walked) h i) (list_any (λ y. p == y) cs) refl)

  module _ (ascend : IsStrictlySortedBy nat_cmp xs) (rising : IsNonDecreasingBy (λ q. q) cs) where
    sooner : (k p : ℕ) → k < length cs → p < get_or cs k p → Walked S xs cs k → Contains xs p → Contains cs p → S p
    sooner k p l less walked i h =
        ⊎_elim
        (λ low. subst (λ c. Contains xs c → S c) (get_or-take k cs h.0 p low ∙ h.2) (walked h.0 p (omega (arith, low, h.1, length-take-le k cs (omega (arith, l))))) i)
        (λ high. let up = rising k h.0 p high h.1 in let is = h.2 in absurd (omega (arith, up, is, less)))
        (cases_lt h.0 k)

    pub walk_ends : (k q : ℕ) → k < length cs → q ≡ get_or cs k 0 → Contains xs q → Walked S xs cs k → Ends S xs q
    walk_ends k q l is i walked = record {
      before = take i.0 xs;
      after = drop (i.0 + 1) xs;
      splits = sym (take-append-drop i.0 xs) ∙ ap (λ rest. take i.0 xs ++ rest) (drop_more xs i.0 q i.1 ∙ ap (λ x. x ∷ drop (i.0 + 1) xs) i.2);
      earlier = λ j d low.
          let long = length-take-le i.0 xs (omega (arith, i.1)) in
          let j< : j < i.0 = omega (arith, low, long) in
          let j<' : j < length xs = omega (arith, j<, i.1) in
          let p = get_or xs j d in
          let below : get_or xs j q < get_or xs i.0 q = below_from_sorted xs j i.0 q ascend j< i.1 in
          let same : get_or xs j q ≡ p = get_or_default xs j q d j<' in
          let at : q ≡ get_or cs k p = is ∙ get_or_default cs k 0 p l in
          let has : Contains xs p = Contains-get_or xs j d j<' in
          let less : p < get_or cs k p = omega (arith, below, same, at, i.2) in
          subst S (sym (get_or-take i.0 xs j d j<)) (either p has (sooner k p l less walked has) (list_any (λ y. p == y) cs) refl);
    }

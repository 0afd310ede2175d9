-- What an insertion into a list that ascends keeps, and adds.
use Rattle.std.proofs.Common.{◌≡◌, ◌↔◌, ◌⊎◌, ℕ, zero, suc, ◌<◌, ◌≤◌, Bool, true, false, not, ◌||◌, List, [], ◌∷◌, ◌++◌, length, get_or, Result, Ok, Err, IsTrue, IfOk, OnOk, All, Contains, refl, sym, ap, ◌∙◌, subst, inl, inr, ⊎_elim, arith}
use Rattle.std.specs.declared.cmp.Ordering.{Ordering}
use Rattle.std.specs.declared.cmp.Ordering.TheVariants.{Less, Equal, Greater}
use Rattle.std.specs.Ordering.{match_ordering, is_eq, eq_by_cmp, nat_cmp}
use Rattle.std.specs.Cmp.{IsTotalOrder}
use Rattle.std.specs.List.Sorted.{IsStrictlySortedBy}
use Rattle.std.specs.BTreeSet.{insert_key}
use Rattle.std.proofs.lemmas.Bool.Decides.{nat_tests}
use Rattle.std.proofs.lemmas.Cmp.{tied_itself}
use Rattle.std.proofs.lemmas.List.Elements.{All-head, All-tail}
use Rattle.std.proofs.lemmas.Map.Keys.{below_from_sorted}
use Rattle.std.proofs.lemmas.Map.Lookups.{CmpEqualImpliesEq}
use Rattle.std.proofs.lemmas.Map.Views.{tells_apart}
use Rattle.list_laws.specs.Lists.{has, IsUnion}
use Rattle.list_laws.proofs.Members.{here, there, parts, none}

module _ {K : Type 0} {R : K → K → Ordering} (o : IsTotalOrder R) (exact : CmpEqualImpliesEq R) where
  pub contains_from_has : (xs : List K) (k : K) → has R xs k ≡ true → Contains xs k
  contains_from_has [] k e = absurd (cc)
  contains_from_has (x ∷ xs) k e = go (contains_from_has xs k) (is_eq (R k x)) refl e
    where
      equal : (r : Ordering) → R k x ≡ r → is_eq r ≡ true → k ≡ x
      equal Less h t = absurd (cc)
      equal Equal h t = exact k x h
      equal Greater h t = absurd (cc)

      go : (has R xs k ≡ true → Contains xs k) → (b : Bool) → is_eq (R k x) ≡ b → (b || has R xs k) ≡ true → Contains (x ∷ xs) k
      go rest true h t = subst (Contains (x ∷ xs)) (sym (equal (R k x) refl h)) (here x xs)
      go rest false h t = there x k xs (rest t)

  pub has_from_contains : (xs : List K) (k : K) → Contains xs k → has R xs k ≡ true
  has_from_contains [] k c = absurd (none k c)
  has_from_contains (x ∷ xs) k c = ⊎_elim (λ e. let h = subst (λ z. is_eq (R k z) ≡ true) (sym e) (ap is_eq (tied_itself o k)) in rw h) (λ t. or_true (is_eq (R k x)) (has_from_contains xs k t)) (parts x k xs c)
    where
      or_true : (a : Bool) → has R xs k ≡ true → (a || has R xs k) ≡ true
      or_true true e = refl
      or_true false e = e

  pub inserted : (xs : List K) (k : K) → Contains (insert_key R xs k) k
  inserted [] k = here k []
  inserted (x ∷ xs) k =
      elim (R k x) as (λ r. R k x ≡ r → Contains (match_ordering r (k ∷ x ∷ xs) (x ∷ xs) (x ∷ insert_key R xs k)) k) [
        | Less ↦ λ e. here k (x ∷ xs)
        | Equal ↦ λ e. subst (Contains (x ∷ xs)) (sym (exact k x e)) (here x xs)
        | Greater ↦ λ e. there x k (insert_key R xs k) (inserted xs k)
      ] refl

  pub kept : (xs : List K) (k y : K) → Contains xs y → Contains (insert_key R xs k) y
  kept [] k y c = absurd (none y c)
  kept (x ∷ xs) k y c =
      elim (R k x) as (λ r. Contains (match_ordering r (k ∷ x ∷ xs) (x ∷ xs) (x ∷ insert_key R xs k)) y) [
        | Less ↦ there k y (x ∷ xs) c
        | Equal ↦ c
        | Greater ↦ ⊎_elim (λ e. subst (Contains (x ∷ insert_key R xs k)) e (here x (insert_key R xs k))) (λ t. there x y (insert_key R xs k) (kept xs k y t)) (parts x y xs c)
      ]

  pub was : (xs : List K) (k y : K) → Contains (insert_key R xs k) y → Contains xs y ⊎ (k ≡ y)
  was [] k y c = ⊎_elim (λ e. inr e) (λ t. inl t) (parts k y [] c)
  was (x ∷ xs) k y c =
      (elim (R k x) as (λ r. Contains (match_ordering r (k ∷ x ∷ xs) (x ∷ xs) (x ∷ insert_key R xs k)) y → Contains (x ∷ xs) y ⊎ (k ≡ y)) [
        | Less ↦ λ c. ⊎_elim (λ e. inr e) (λ t. inl t) (parts k y (x ∷ xs) c)
        | Equal ↦ λ c. inl c
        | Greater ↦ λ c. ⊎_elim (λ e. inl (subst (Contains (x ∷ xs)) e (here x xs))) (λ t. ⊎_elim (λ i. inl (there x y xs i)) (λ e. inr e) (was xs k y t)) (parts x y (insert_key R xs k) c)
      ]) c

  pub length_new : (xs : List K) (k : K) → has R xs k ≡ false → length (insert_key R xs k) ≡ suc (length xs)
  length_new [] k e = refl
  length_new (x ∷ xs) k e =
      elim (R k x) as (λ r. (is_eq r || has R xs k) ≡ false → length (match_ordering r (k ∷ x ∷ xs) (x ∷ xs) (x ∷ insert_key R xs k)) ≡ suc (suc (length xs))) [
        | Less ↦ λ h. refl
        | Equal ↦ λ h. absurd (cc)
        | Greater ↦ λ h. ap suc (length_new xs k h)
      ] e

-- an equality that holds where the order answers `Equal`
pub same_from_cmp : {X : Type 0} {R : X → X → Ordering} {E : X → X → Bool} → ((x y : X) → E x y ≡ eq_by_cmp R x y) → CmpEqualImpliesEq R → (x y : X) → E x y ≡ true → x ≡ y
same_from_cmp {R = R} ties exact x y e = tells_apart exact x y (sym (ties x y) ∙ e)

-- ---- unions

module _ {K : Type 0} {R : K → K → Ordering} (o : IsTotalOrder R) (exact : CmpEqualImpliesEq R) where
  pub union_insert : (xs : List K) (k : K) → IsUnion xs (k ∷ []) (insert_key R xs k)
  union_insert xs k x = (
    λ c. ⊎_elim (λ i. inl i) (λ e. inr (subst (Contains (k ∷ [])) e (here k []))) (was o exact xs k x c),
    λ either. ⊎_elim (λ i. kept o exact xs k x i) (λ i. ⊎_elim (λ e. subst (Contains (insert_key R xs k)) e (inserted o exact xs k)) (λ t. absurd (none x t)) (parts k x [] i)) either,
  )

  pub union_after : {B E : Type 0} (old new : List K) (k : K) (r : Result B E) → OnOk r (new ≡ insert_key R old k) → OnOk r (IsUnion old (k ∷ []) new)
  union_after old new k (Ok b) h = subst (IsUnion old (k ∷ [])) (sym h) (union_insert old k)
  union_after old new k (Err e) h = tt

  is_new : (xs : List K) (k : K) (b : Bool) → has R xs k ≡ b → IsTrue (not b) ↔ ¬ Contains xs k
  is_new xs k true e = (λ h. absurd (cc), λ f. absurd (f (contains_from_has o exact xs k e)))
  is_new xs k false e = (λ h c. let t = has_from_contains o exact xs k c in cc, λ f. refl)

  -- whether a key was new
  pub new_after : {E : Type 0} (xs : List K) (k : K) (r : Result Bool E) → IfOk r (λ new. new ≡ not (has R xs k)) → IfOk r (λ new. IsTrue new ↔ ¬ Contains xs k)
  new_after xs k (Ok b) h = subst (λ new. IsTrue new ↔ ¬ Contains xs k) (sym h) (is_new xs k (has R xs k) refl)
  new_after xs k (Err e) h = tt

pub insert_last : (xs : List ℕ) (n : ℕ) → All (λ q. q < n) xs → insert_key nat_cmp xs n ≡ xs ++ n ∷ []
insert_last [] n a = refl
insert_last (x ∷ xs) n a =
    let h : x < n = All-head (λ q. q < n) x xs a in
    let e = ap (λ ys. x ∷ ys) (insert_last xs n (All-tail (λ q. q < n) x xs a)) in
    grind (arith, nat_tests, e)

-- ---- numbers

-- numbers below n that rise are at most n
at_least : (xs : List ℕ) (k : ℕ) → IsStrictlySortedBy nat_cmp xs → k < length xs → k ≤ get_or xs k 0
at_least xs zero s l = omega arith
at_least xs (suc k) s l = omega (arith, at_least xs k s (omega arith), below_from_sorted xs k (suc k) 0 s (omega arith) l)

pub few_below : (xs : List ℕ) (n : ℕ) → IsStrictlySortedBy nat_cmp xs → All (λ q. q < n) xs → length xs ≤ n
few_below xs n s a = go (length xs) refl
  where
    go : (m : ℕ) → length xs ≡ m → length xs ≤ n
    go zero e = omega arith
    go (suc m) e = omega (arith, at_least xs m s (omega arith), a m 0 (omega arith))

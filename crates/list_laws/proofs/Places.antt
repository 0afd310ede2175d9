-- A key's place in a list that ascends.
use Rattle.std.proofs.Common.{◌≡◌, ℕ, suc, zero, ◌+◌, ◌<◌, ◌≤◌, Bool, true, false, ◌||◌, List, [], ◌∷◌, length, get_or, Result, Ok, Err, refl, sym, ap, ◌∙◌, arith}
use Rattle.std.specs.declared.cmp.Ordering.{Ordering}
use Rattle.std.specs.declared.cmp.Ordering.TheVariants.{Less, Equal, Greater}
use Rattle.std.specs.Ordering.{ordering_reverse, match_ordering, is_eq, is_lt, ordering_index}
use Rattle.std.specs.Cmp.{IsTotalOrder}
use Rattle.std.specs.List.{insert, AllWithin, HoldsAt, AllByRecursion}
use Rattle.std.specs.Result.{is_ok}
use Rattle.std.specs.List.Sorted.{IsStrictlySortedBy, IsNonDecreasingBy, IsSearchInRange, IsBinarySearchResult}
use Rattle.std.specs.BTreeSet.{insert_key}
use Rattle.std.proofs.lemmas.Cmp.{alike_right, tied_back}
use Rattle.std.proofs.lemmas.List.Sorted.{searchable_from_sorted}
use Rattle.std.proofs.lemmas.Map.Keys.{Less-from_sorted}
use Rattle.list_laws.specs.Lists.{has}

all_map : {K : Type 0} (P Q : K → Type 0) → ((y : K) → P y → Q y) → (xs : List K) → AllByRecursion P xs → AllByRecursion Q xs
all_map P Q f [] a = tt
all_map P Q f (x ∷ xs) a = (f x a.0, all_map P Q f xs a.1)

pub nothing_ascends : {K : Type 0} (R : K → K → Ordering) → IsStrictlySortedBy R []
unfolding IsStrictlySortedBy
nothing_ascends R = tt

module _ {K : Type 0} {R : K → K → Ordering} (o : IsTotalOrder R) where
  flip_greater : (x y : K) → R x y ≡ Greater → R y x ≡ Less
  flip_greater x y e = o.antisymm y x ∙ ap ordering_reverse e

  flip_less : (x y : K) → R x y ≡ Less → R y x ≡ Greater
  flip_less x y e = o.antisymm y x ∙ ap ordering_reverse e

  -- what a binary search asks
  pub searchable : (xs : List K) (k : K) → IsStrictlySortedBy R xs → IsNonDecreasingBy (λ y. ordering_index (R y k)) xs
  searchable xs k s = searchable_from_sorted o (λ y. y) xs k (λ i d low high. ap is_lt (flip_less _ _ (Less-from_sorted R xs i (i + 1) d s (omega arith) high)))

  -- the place before which all are less, and from which on all are greater
  pub insert_at_gap : (xs : List K) (i : ℕ) (k : K) → i ≤ length xs → AllWithin (λ y. R y k ≡ Less) xs 0 i → AllWithin (λ y. R y k ≡ Greater) xs i (length xs) → insert_key R xs k ≡ insert xs i k
  insert_at_gap [] zero k l a b = refl
  insert_at_gap [] (suc i) k l a b = absurd (omega arith)
  insert_at_gap (x ∷ xs) zero k l a b = rw (flip_greater x k (b 0 k (omega arith) (omega arith)))
  insert_at_gap (x ∷ xs) (suc i) k l a b =
      rw (flip_less x k (a 0 k (omega arith) (omega arith)))
      (ap (λ ys. x ∷ ys) (insert_at_gap xs i k (omega arith) (λ n d low high. a (suc n) d (omega arith) (omega arith)) (λ n d low high. b (suc n) d (omega arith) (omega arith))))

  pub absent_at_gap : (xs : List K) (i : ℕ) (k : K) → AllWithin (λ y. R y k ≡ Less) xs 0 i → AllWithin (λ y. R y k ≡ Greater) xs i (length xs) → has R xs k ≡ false
  absent_at_gap [] i k a b = refl
  absent_at_gap (x ∷ xs) zero k a b = rw (flip_greater x k (b 0 k (omega arith) (omega arith))) (absent_at_gap xs zero k (λ n d low high. absurd (omega arith)) (λ n d low high. b (suc n) d (omega arith) (omega arith)))
  absent_at_gap (x ∷ xs) (suc i) k a b =
      rw (flip_less x k (a 0 k (omega arith) (omega arith)))
      (absent_at_gap xs i k (λ n d low high. a (suc n) d (omega arith) (omega arith)) (λ n d low high. b (suc n) d (omega arith) (omega arith)))

  pub present_at : (xs : List K) (i : ℕ) (k : K) → i < length xs → HoldsAt (λ y. R y k ≡ Equal) xs i → has R xs k ≡ true
  present_at [] i k l h = absurd (omega arith)
  present_at (x ∷ xs) zero k l h = rw (tied_back o x k (h k))
  present_at (x ∷ xs) (suc i) k l h = or_true (is_eq (R k x)) _ (present_at xs i k (omega arith) h)
    where
      or_true : (a b : Bool) → b ≡ true → (a || b) ≡ true
      or_true true b e = refl
      or_true false b e = e

  pub unchanged_at : (xs : List K) (i : ℕ) (k : K) → IsStrictlySortedBy R xs → i < length xs → HoldsAt (λ y. R y k ≡ Equal) xs i → insert_key R xs k ≡ xs
  unfolding IsStrictlySortedBy
  unchanged_at [] i k s l h = absurd (omega arith)
  unchanged_at (x ∷ xs) zero k s l h = rw (tied_back o x k (h k))
  unchanged_at (x ∷ xs) (suc i) k s l h =
      let below : R x (get_or xs i k) ≡ Less = Less-from_sorted R (x ∷ xs) 0 (suc i) k s (omega arith) l in
      let less : R x k ≡ Less = sym (alike_right o (get_or xs i k) k x (h k)) ∙ below in
      rw (flip_less x k less) (ap (λ ys. x ∷ ys) (unchanged_at xs i k s.1 (omega arith) h))

  all_insert_key : (P : K → Type 0) (xs : List K) (k : K) → AllByRecursion P xs → P k → AllByRecursion P (insert_key R xs k)
  all_insert_key P [] k a p = (p, tt)
  all_insert_key P (x ∷ xs) k a p =
      elim (R k x) as (λ r. AllByRecursion P (match_ordering r (k ∷ x ∷ xs) (x ∷ xs) (x ∷ insert_key R xs k))) [
        | Less ↦ (p, a)
        | Equal ↦ a
        | Greater ↦ (a.0, all_insert_key P xs k a.1 p)
      ]

  pub sorted_insert_key : (xs : List K) (k : K) → IsStrictlySortedBy R xs → IsStrictlySortedBy R (insert_key R xs k)
  unfolding IsStrictlySortedBy
  sorted_insert_key [] k s = (tt, tt)
  sorted_insert_key (x ∷ xs) k s =
      elim (R k x) as (λ r. R k x ≡ r → IsStrictlySortedBy R (match_ordering r (k ∷ x ∷ xs) (x ∷ xs) (x ∷ insert_key R xs k))) [
        | Less ↦ λ e. ((e, all_map (λ y. R x y ≡ Less) (λ y. R k y ≡ Less) (λ y f. o.trans k x y e f) xs s.0), s)
        | Equal ↦ λ e. s
        | Greater ↦ λ e. (all_insert_key (λ y. R x y ≡ Less) xs k s.0 (flip_greater k x e), sorted_insert_key xs k s.1)
      ] refl

pub search_answers : {K : Type 0} {R : K → K → Ordering} (o : IsTotalOrder R) (xs : List K) (k : K) (r : Result ℕ ℕ) → IsStrictlySortedBy R xs → IsSearchInRange r (length xs) → IsBinarySearchResult (λ y. R y k) xs r → is_ok r ≡ has R xs k
search_answers o xs k (Ok i) s b h = sym (present_at o xs i k b h)
search_answers o xs k (Err i) s b h = let parts = h (searchable o xs k s) in sym (absent_at_gap o xs i k parts.0 parts.1)

-- What a binary search finds, and the part of a list that has a key, where the list ascends by its keys.
use Rattle.std.proofs.Common.{◌≡◌, ◌↔◌, ℕ, ◌+◌, ◌-◌, ◌<◌, ◌≤◌, true, false, List, length, get_or, take, drop, Result, Contains, sym, ap, ◌∙◌, subst, ⊎_elim, arith, ltb, leb, ltb-true, ltb-false, leb-true, leb-false}
use Rattle.std.specs.declared.cmp.Ordering.{Ordering}
use Rattle.std.specs.declared.cmp.Ordering.TheVariants.{Less}
use Rattle.std.specs.Ordering.{nat_cmp, ordering_then}
use Rattle.std.specs.List.Sorted.{IsStrictlySortedBy, IsPartitionPoint, IsSearchInRange, IsBinarySearchResult, IsNonDecreasingBy}
use Rattle.std.specs.Result.{is_ok}
use Rattle.std.proofs.Math.Nat.{eq-or-lt_of_le}
use Rattle.std.proofs.lemmas.Bool.{cases_lt}
use Rattle.std.proofs.lemmas.Bool.Decides.{nat_tests}
use Rattle.std.proofs.lemmas.List.{get_or-take, get_or-drop, length-take-le, length-drop}
use Rattle.std.proofs.lemmas.Cmp.{nat_cmp_total}
use Rattle.std.proofs.lemmas.Map.Keys.{Less-from_sorted}
use Rattle.std.proofs.lemmas.Map.Lookups.{exact_unsigned}
use Rattle.list_laws.proofs.Inserting.{contains_from_has, has_from_contains}
use Rattle.list_laws.proofs.Places.{search_answers}

-- a search in numbers that ascend finds those that are there
pub search_finds : (numbers : List ℕ) (q : ℕ) (r : Result ℕ ℕ) → IsStrictlySortedBy nat_cmp numbers → IsSearchInRange r (length numbers) → IsBinarySearchResult (λ y. nat_cmp y q) numbers r → (is_ok r ≡ true) ↔ Contains numbers q
search_finds numbers q r sorted bound position =
    let answer = search_answers nat_cmp_total numbers q r sorted bound position in (
      λ t. contains_from_has nat_cmp_total exact_unsigned numbers q (sym answer ∙ t),
      λ i. answer ∙ has_from_contains nat_cmp_total exact_unsigned numbers q i,
    )

-- a list that ascends by a number first, and then by the rest, has numbers that don't fall
at_most : (a b : ℕ) (rest : Ordering) → ordering_then (nat_cmp a b) rest ≡ Less → a ≤ b
at_most a b rest e = grind (arith, nat_tests)

pub numbers_rise : {X : Type 0} {c : X → X → Ordering} (n : X → ℕ) (rest : X → X → Ordering) → ((x y : X) → c x y ≡ ordering_then (nat_cmp (n x) (n y)) (rest x y)) →
    (xs : List X) → IsStrictlySortedBy c xs → IsNonDecreasingBy n xs
numbers_rise {c = c} n rest first xs s i j d low high =
    ⊎_elim (λ same. subst (λ k. n (get_or xs i d) ≤ n (get_or xs k d)) same (omega arith))
    (λ below. at_most _ _ _ (sym (first _ _) ∙ Less-from_sorted c xs i j d s below high)) (eq-or-lt_of_le low)

-- first what is below the key, then what is at it, then what is above
module _ {X : Type 0} (n : X → ℕ) (key : ℕ) (xs : List X) (start count : ℕ) (in_start : start ≤ length xs) (in_count : count ≤ length (drop start xs))
    (lower : IsPartitionPoint (λ y. ltb (n y) key ≡ true) (λ y. ltb (n y) key ≡ false) xs start)
    (upper : IsPartitionPoint (λ y. leb (n y) key ≡ true) (λ y. leb (n y) key ≡ false) (drop start xs) count) where
  at_part : (k : ℕ) (d : X) → k < count → get_or (take count (drop start xs)) k d ≡ get_or xs (start + k) d
  at_part k d l = get_or-take count (drop start xs) k d l ∙ get_or-drop start xs k d

  in_part : (x : X) → Contains (take count (drop start xs)) x → Contains xs x × (n x ≡ key)
  in_part x c =
      let size : length (take count (drop start xs)) ≡ count = length-take-le count (drop start xs) in_count in
      let whole : length (drop start xs) ≡ length xs - start = length-drop start xs in
      let k = c.0 in
      let inside : k < count = omega (arith, c.1, size) in
      let is : get_or xs (start + k) x ≡ x = sym (at_part k x inside) ∙ c.2 in
      let not_below : key ≤ n x = ltb-false (n x) key (subst (λ y. ltb (n y) key ≡ false) is (lower.1 (start + k) x (omega arith) (omega (arith, whole)))) in
      let not_above : n x ≤ key = leb-true (n x) key (subst (λ y. leb (n y) key ≡ true) (get_or-drop start xs k x ∙ is) (upper.0 k x (omega arith) inside)) in
      ((start + k, omega (arith, whole), is), omega arith)

  from_part : (x : X) → Contains xs x → n x ≡ key → Contains (take count (drop start xs)) x
  from_part x c e =
      let size : length (take count (drop start xs)) ≡ count = length-take-le count (drop start xs) in_count in
      let whole : length (drop start xs) ≡ length xs - start = length-drop start xs in
      let k = c.0 in
      let not_before : start ≤ k = ⊎_elim (λ before. absurd (omega (arith, ltb-true (n x) key (subst (λ y. ltb (n y) key ≡ true) c.2 (lower.0 k x (omega arith) before)), e))) (λ h. h) (cases_lt k start) in
      let i = k - start in
      let is : get_or (drop start xs) i x ≡ x = get_or-drop start xs i x ∙ (ap (λ m. get_or xs m x) (omega arith) ∙ c.2) in
      let not_after : i < count = ⊎_elim (λ h. h) (λ after. absurd (omega (arith, leb-false (n x) key (subst (λ y. leb (n y) key ≡ false) is (upper.1 i x after (omega (arith, whole, c.1)))), e))) (cases_lt i count) in
      (i, omega (arith, size), get_or-take count (drop start xs) i x not_after ∙ is)

  pub part_of_key : (x : X) → Contains (take count (drop start xs)) x ↔ (Contains xs x × (n x ≡ key))
  part_of_key x = (in_part x, λ h. from_part x h.0 h.1)

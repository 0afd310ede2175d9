-- Lists put in order: their members, and what is kept aside of them.
use Rattle.std.proofs.Common.{◌≡◌, List, [], ◌∷◌, ◌++◌, All, Contains, ap, ◌∙◌, subst, ⊎_elim}
use Rattle.std.specs.declared.cmp.Ordering.{Ordering}
use Rattle.std.specs.Cmp.{IsTotalOrder}
use Rattle.std.specs.List.Sorted.{IsStrictlySortedBy}
use Rattle.std.specs.BTreeSet.{insert_key}
use Rattle.std.proofs.lemmas.List.{append-nil}
use Rattle.std.proofs.lemmas.List.Elements.{All-contains, Contains-append_left, Contains-append_right, Contains-append_cases}
use Rattle.std.proofs.lemmas.Map.Lookups.{CmpEqualImpliesEq}
use Rattle.list_laws.specs.Lists.{IsUnion}
use Rattle.list_laws.specs.InOrder.{in_order}
use Rattle.list_laws.proofs.Members.{here, there, none, parts, all_from_members}
use Rattle.list_laws.proofs.Inserting.{inserted, kept, was}
use Rattle.list_laws.proofs.Places.{sorted_insert_key, nothing_ascends}
use Rattle.list_laws.proofs.Listings.{listing_one}

pub in_order_ascends : {K : Type 0} {R : K → K → Ordering} → IsTotalOrder R → (xs : List K) → IsStrictlySortedBy R (in_order R xs)
in_order_ascends {R = R} o [] = nothing_ascends R
in_order_ascends {R = R} o (z ∷ xs) = sorted_insert_key o (in_order R xs) z (in_order_ascends o xs)

module _ {K : Type 0} {R : K → K → Ordering} (o : IsTotalOrder R) (exact : CmpEqualImpliesEq R) where
  pub in_order_has : (xs : List K) (x : K) → Contains xs x → Contains (in_order R xs) x
  in_order_has [] x c = absurd (none x c)
  in_order_has (z ∷ xs) x c =
      ⊎_elim (λ same. subst (Contains (insert_key R (in_order R xs) z)) same (inserted o exact (in_order R xs) z))
      (λ later. kept o exact (in_order R xs) z x (in_order_has xs x later)) (parts z x xs c)

  pub in_order_had : (xs : List K) (x : K) → Contains (in_order R xs) x → Contains xs x
  in_order_had [] x c = absurd (none x c)
  in_order_had (z ∷ xs) x c =
      ⊎_elim (λ before. there z x xs (in_order_had xs x before)) (λ same. subst (Contains (z ∷ xs)) same (here z xs)) (was o exact (in_order R xs) z x c)

  -- lists that ascend and have the same members are one
  pub same_set : (xs ys : List K) → IsStrictlySortedBy R xs → IsStrictlySortedBy R ys → ((z : K) → Contains xs z → Contains ys z) → ((z : K) → Contains ys z → Contains xs z) → xs ≡ ys
  same_set xs ys s t f g =
      listing_one o xs ys (record { ascends = s; exact = λ z. ((λ c. c), (λ c. c)) }) (record { ascends = t; exact = λ z. (g z, f z) })

  -- a list that ascends is in order already
  pub already : (xs : List K) → IsStrictlySortedBy R xs → in_order R (xs ++ []) ≡ xs
  already xs s = ap (in_order R) (append-nil xs) ∙ same_set (in_order R xs) xs (in_order_ascends o xs) s (in_order_had xs) (in_order_has xs)

  -- a union that ascends is the list in order
  pub in_order_union : (xs ys all : List K) → IsUnion xs ys all → IsStrictlySortedBy R all → all ≡ in_order R (xs ++ ys)
  in_order_union xs ys all u s =
      same_set all (in_order R (xs ++ ys)) s (in_order_ascends o (xs ++ ys))
      (λ z c. in_order_has (xs ++ ys) z (⊎_elim (λ h. Contains-append_left xs ys z h) (λ h. Contains-append_right xs ys z h) ((u z).0 c)))
      (λ z c. (u z).1 (Contains-append_cases xs ys z (in_order_had (xs ++ ys) z c)))

  -- what holds of all in order holds of those that are kept aside
  pub all_aside : (P : K → Type 0) (xs ys : List K) → All P (in_order R (xs ++ ys)) → All P ys
  all_aside P xs ys a = all_from_members P ys (λ z c. All-contains P (in_order R (xs ++ ys)) z a (in_order_has (xs ++ ys) z (Contains-append_right xs ys z c)))

  -- what holds of all members holds of all after an insertion
  pub all_inserted : (P : K → Type 0) (xs : List K) (k : K) → All P xs → P k → All P (insert_key R xs k)
  all_inserted P xs k a h = all_from_members P (insert_key R xs k) (λ z c. ⊎_elim (λ i. All-contains P xs z a i) (λ same. subst P same h) (was o exact xs k z c))

  -- members that are kept aside in order stand where they would stand at once
  aside_forth : (xs ys : List K) (k z : K) → Contains (in_order R (xs ++ insert_key R ys k)) z → Contains (insert_key R (in_order R (xs ++ ys)) k) z
  aside_forth xs ys k z c =
      let old = in_order R (xs ++ ys) in
      ⊎_elim (λ i. kept o exact old k z (in_order_has (xs ++ ys) z (Contains-append_left xs ys z i)))
      (λ i. ⊎_elim (λ j. kept o exact old k z (in_order_has (xs ++ ys) z (Contains-append_right xs ys z j)))
      (λ same. subst (Contains (insert_key R old k)) same (inserted o exact old k)) (was o exact ys k z i))
      (Contains-append_cases xs (insert_key R ys k) z (in_order_had (xs ++ insert_key R ys k) z c))

  aside_back : (xs ys : List K) (k z : K) → Contains (insert_key R (in_order R (xs ++ ys)) k) z → Contains (in_order R (xs ++ insert_key R ys k)) z
  aside_back xs ys k z c =
      in_order_has (xs ++ insert_key R ys k) z
      (⊎_elim (λ i. ⊎_elim (λ j. Contains-append_left xs (insert_key R ys k) z j) (λ j. Contains-append_right xs (insert_key R ys k) z (kept o exact ys k z j))
      (Contains-append_cases xs ys z (in_order_had (xs ++ ys) z i)))
      (λ same. subst (Contains (xs ++ insert_key R ys k)) same (Contains-append_right xs (insert_key R ys k) k (inserted o exact ys k)))
      (was o exact (in_order R (xs ++ ys)) k z c))

  pub insert_aside : (xs ys : List K) (k : K) → in_order R (xs ++ insert_key R ys k) ≡ insert_key R (in_order R (xs ++ ys)) k
  insert_aside xs ys k =
      same_set (in_order R (xs ++ insert_key R ys k)) (insert_key R (in_order R (xs ++ ys)) k) (in_order_ascends o (xs ++ insert_key R ys k))
      (sorted_insert_key o (in_order R (xs ++ ys)) k (in_order_ascends o (xs ++ ys))) (aside_forth xs ys k) (aside_back xs ys k)

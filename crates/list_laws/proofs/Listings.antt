-- Lists in ascending order: one list of whatever has a property, its fronts, and how long it is.
use Rattle.std.proofs.Common.{◌≡◌, ◌≢◌, ◌⊎◌, ℕ, suc, ◌<◌, ◌≤◌, Bool, true, false, ◌==◌, ◌||◌, List, [], ◌∷◌, ◌++◌, length, get_or, refl, sym, ap, ◌∙◌, subst, inl, inr, ⊎_elim, All, Contains, length-append, arith}
use Rattle.std.specs.declared.cmp.Ordering.{Ordering}
use Rattle.std.specs.declared.cmp.Ordering.TheVariants.{Less}
use Rattle.std.specs.Cmp.{IsTotalOrder}
use Rattle.std.specs.List.{AllPairs, AllByRecursion, IsDistinct, list_any}
use Rattle.std.specs.List.Sorted.{IsStrictlySortedBy}
use Rattle.std.proofs.lemmas.Bool.{eqb-true}
use Rattle.std.proofs.lemmas.Cmp.{tied_itself}
use Rattle.std.proofs.lemmas.List.{append-nil, get_or_default}
use Rattle.std.proofs.lemmas.List.Elements.{All-nil, All-cons, All-contains, All-from_recursion, All-head, All-tail, Contains-append_cases, Contains-append_right, Contains-get_or, recursion_from_All}
use Rattle.std.proofs.lemmas.Map.Keys.{Less-from_sorted}
use Rattle.std.proofs.lemmas.Map.Steps.{length-le_from_distinct_below}
use Rattle.list_laws.specs.Listings.{IsListing, IsFront, HasMoreThan, IsFirst}
use Rattle.list_laws.proofs.Members.{here, there, parts, none}

-- ---- lists that ascend

module _ {X : Type 0} {c : X → X → Ordering} (o : IsTotalOrder c) where
  pub irreflexive : (x : X) → c x x ≡ Less → ⊥
  irreflexive x e = let h = tied_itself o x in cc

  cross : (x y : X) → c x y ≡ Less → c y x ≡ Less → ⊥
  cross x y e h = irreflexive x (o.trans x y x e h)

  pub before_rest : (x : X) (xs : List X) → IsStrictlySortedBy c (x ∷ xs) → (y : X) → Contains xs y → c x y ≡ Less
  unfolding IsStrictlySortedBy
  before_rest x xs s y m = All-contains (λ y. c x y ≡ Less) xs y (All-from_recursion (λ y. c x y ≡ Less) xs s.0) m

  pub rest_ascends : (x : X) (xs : List X) → IsStrictlySortedBy c (x ∷ xs) → IsStrictlySortedBy c xs
  unfolding IsStrictlySortedBy
  rest_ascends x xs s = s.1

  pub one_ascends : (x : X) → IsStrictlySortedBy c (x ∷ [])
  unfolding IsStrictlySortedBy
  one_ascends x = (tt, tt)

  pub back_ascends : (xs ys : List X) → IsStrictlySortedBy c (xs ++ ys) → IsStrictlySortedBy c ys
  back_ascends [] ys s = s
  back_ascends (x ∷ xs) ys s = back_ascends xs ys (rest_ascends x (xs ++ ys) s)

  pub distinct_if_ascends : (xs : List X) → IsStrictlySortedBy c xs → AllPairs (λ x y. x ≢ y) xs
  distinct_if_ascends xs s i j d l h e = irreflexive (get_or xs i d) (subst (λ z. c (get_or xs i d) z ≡ Less) (sym e) (Less-from_sorted c xs i j d s l h))

  same_head : (x y : X) (xs ys : List X) → IsStrictlySortedBy c (x ∷ xs) → IsStrictlySortedBy c (y ∷ ys) → Contains (y ∷ ys) x →
      Contains (x ∷ xs) y ⊎ All (λ z. c z y ≡ Less) (x ∷ xs) → x ≡ y
  same_head x y xs ys s t m d =
      ⊎_elim (λ same. sym same)
      (λ later.
      let less = before_rest y ys t x later in
      ⊎_elim (λ n. ⊎_elim (λ same. same) (λ after. absurd (cross x y (before_rest x xs s y after) less)) (parts x y xs n))
      (λ all. absurd (cross x y (All-head (λ z. c z y ≡ Less) x xs all) less)) d)
      (parts y x ys m)

  pub front_of : (xs ys : List X) → IsStrictlySortedBy c xs → IsStrictlySortedBy c ys → ((x : X) → Contains xs x → Contains ys x) →
      ((y : X) → Contains ys y → Contains xs y ⊎ All (λ x. c x y ≡ Less) xs) → (rest : List X) × (ys ≡ xs ++ rest)
  front_of [] ys s t within first = (ys, refl)
  front_of (x ∷ xs) [] s t within first = absurd (none x (within x (here x xs)))
  front_of (x ∷ xs) (y ∷ ys) s t within first =
      let e = same_head x y xs ys s t (within x (here x xs)) (first y (here y ys)) in
      let h = front_of xs ys (rest_ascends x xs s) (rest_ascends y ys t)
      (λ z m. ⊎_elim (λ same. absurd (irreflexive x (subst (λ w. c x w ≡ Less) (sym same ∙ sym e) (before_rest x xs s z m)))) (λ later. later) (parts y z ys (within z (there x z xs m))))
      (λ z m. ⊎_elim (λ n. ⊎_elim (λ same. absurd (irreflexive y (subst (λ w. c y w ≡ Less) (sym same ∙ e) (before_rest y ys t z m)))) (λ later. inl later) (parts x z xs n))
      (λ all. inr (All-tail (λ w. c w z ≡ Less) x xs all)) (first z (there y z ys m))) in
      (h.0, (λ k. sym e k ∷ h.1 k))

  -- a front of whatever has the property is a front of its list
  pub listing_front : {P : X → Type 0} (xs ys : List X) → IsFront c P xs → IsListing c P ys → (rest : List X) × (ys ≡ xs ++ rest)
  listing_front xs ys f l = front_of xs ys f.ascends l.ascends (λ x m. (l.exact x).1 (f.each x m)) (λ y m. f.first y ((l.exact y).0 m))

  pub front_from_listing : {P : X → Type 0} (xs : List X) → IsListing c P xs → IsFront c P xs
  front_from_listing xs l = record { ascends = l.ascends; each = λ x m. (l.exact x).0 m; first = λ x p. inl ((l.exact x).1 p) }

  -- there is one list
  pub listing_one : {P : X → Type 0} (xs ys : List X) → IsListing c P xs → IsListing c P ys → xs ≡ ys
  listing_one xs ys a b =
      let there = listing_front xs ys (front_from_listing xs a) b in
      let back = listing_front ys xs (front_from_listing ys b) a in
      let long : length there.0 ≡ 0 = omega (arith, ap length there.1, ap length back.1, length-append xs there.0, length-append ys back.0) in
      sym (there.1 ∙ ap (λ r. xs ++ r) (empty there.0 long) ∙ append-nil xs)
    where
      empty : (r : List X) → length r ≡ 0 → r ≡ []
      empty [] e = refl
      empty (x ∷ r) e = absurd (omega arith)

  -- the first one of a list that ascends comes before whatever else of the list is one
  pub first_is_front : {Is Not : X → Type 0} → ((x : X) → Is x → Not x → ⊥) → (xs : List X) (x : X) → IsStrictlySortedBy c xs → IsFirst Is Not xs x →
      IsFront c (λ y. Contains xs y × Is y) (x ∷ [])
  first_is_front {Is} {Not} both xs x s f = record {
    ascends = one_ascends x;
    each = λ y m. ⊎_elim (λ same. subst (λ y. Contains xs y × Is y) same (inside, f.is)) (λ later. absurd (none y later)) (parts x y [] m);
    first = λ y h. ⊎_elim
        (λ early. absurd (both y h.1 (All-contains Not f.before y f.earlier early)))
        (λ late. ⊎_elim (λ same. inl (subst (Contains (x ∷ [])) same (here x [])))
        (λ later. inr (All-cons (λ z. c z y ≡ Less) x [] (before_rest x f.after tail y later) (All-nil (λ z. c z y ≡ Less))))
        (parts x y f.after late))
        (Contains-append_cases f.before (x ∷ f.after) y (subst (λ l. Contains l y) f.splits h.0));
  }
    where
      inside : Contains xs x
      inside = subst (λ l. Contains l x) (sym f.splits) (Contains-append_right f.before (x ∷ f.after) x (here x f.after))

      tail : IsStrictlySortedBy c (x ∷ f.after)
      tail = back_ascends f.before (x ∷ f.after) (subst (IsStrictlySortedBy c) f.splits s)

  -- so many in a front are so many that have the property
  pub front_has_more : {P : X → Type 0} (n : ℕ) (xs : List X) → IsFront c P xs → n < length xs → HasMoreThan n P
  front_has_more n xs f l = record { some = xs; distinct = distinct_if_ascends xs f.ascends; each = f.each; more = l }

-- ---- how long a list is

differs : (r : Bool) → (r ≡ true → ⊥) → r ≡ false
differs true h = absurd (h refl)
differs false h = refl

module _ {T : Type 0} (xs : List T) where
  -- the places of members
  abbrev places : (ms : List T) → AllByRecursion (Contains xs) ms → List ℕ
  places [] h = []
  places (m ∷ ms) h = h.0.0 ∷ places ms h.1

  abbrev Apart : List T → Type 0
  Apart [] = Unit {0}
  Apart (m ∷ ms) = AllByRecursion (λ y. m ≢ y) ms × Apart ms

  length-places : (ms : List T) (h : AllByRecursion (Contains xs) ms) → length (places ms h) ≡ length ms
  length-places [] h = refl
  length-places (m ∷ ms) h = ap suc (length-places ms h.1)

  same_place : (m n : T) (c : Contains xs m) (d : Contains xs n) → c.0 ≡ d.0 → m ≡ n
  same_place m n c d e = sym c.2 ∙ (get_or_default xs c.0 m n c.1 ∙ (ap (λ k. get_or xs k n) e ∙ d.2))

  others : (m : T) (c : Contains xs m) (ms : List T) (h : AllByRecursion (Contains xs) ms) → AllByRecursion (λ y. m ≢ y) ms → AllByRecursion (λ k. (c.0 == k) ≡ false) (places ms h)
  others m c [] h a = tt
  others m c (n ∷ ms) h a = (differs (c.0 == h.0.0) (λ e. a.0 (same_place m n c h.0 (eqb-true c.0 h.0.0 e))), others m c ms h.1 a.1)

  distinct_places : (ms : List T) (h : AllByRecursion (Contains xs) ms) → Apart ms → IsDistinct ◌==◌ (places ms h)
  unfolding IsDistinct
  distinct_places [] h a = tt
  distinct_places (m ∷ ms) h a = (others m h.0 ms h.1 a.0, distinct_places ms h.1 a.1)

  places_below : (ms : List T) (h : AllByRecursion (Contains xs) ms) (q : ℕ) → list_any (λ k. q == k) (places ms h) ≡ true → q < length xs
  places_below [] h q e = cc
  places_below (m ∷ ms) h q e = go (places_below ms h.1 q) (q == h.0.0) refl e
    where
      go : (list_any (λ k. q == k) (places ms h.1) ≡ true → q < length xs) → (b : Bool) → (q == h.0.0) ≡ b → (b || list_any (λ k. q == k) (places ms h.1)) ≡ true → q < length xs
      go rest true same t = subst (λ k. k < length xs) (sym (eqb-true q h.0.0 same)) h.0.1
      go rest false same t = rest t

  -- members without doubles are no more than the list has
  no_more : (ms : List T) → Apart ms → AllByRecursion (Contains xs) ms → length ms ≤ length xs
  no_more ms a h = subst (λ n. n ≤ length xs) (length-places ms h) (length-le_from_distinct_below (places ms h) (length xs) (distinct_places ms h a) (places_below ms h))

pairs_apart : {T : Type 0} (xs ms : List T) → AllPairs (λ x y. x ≢ y) ms → Apart xs ms
pairs_apart xs [] a = tt
pairs_apart {T} xs (m ∷ ms) a = (
  recursion_from_All (λ y. m ≢ y) ms (λ k d l. a 0 (suc k) d (omega arith) (omega (arith, l))),
  pairs_apart xs ms (λ i j d l h. a (suc i) (suc j) d (omega (arith, l)) (omega (arith, h))),
)

-- where more than so many have the property, a list of all that have it is longer
pub longer_if_more : {X : Type 0} {P : X → Type 0} (n : ℕ) (xs : List X) → ((x : X) → P x → Contains xs x) → HasMoreThan n P → n < length xs
longer_if_more n xs all many =
    let fits = no_more xs many.some (pairs_apart xs many.some many.distinct) (recursion_from_All (Contains xs) many.some (λ k d l. all _ (many.each _ (Contains-get_or many.some k d l)))) in
    omega (arith, fits, many.more)

-- a front that is longer than n makes the list longer than n
pub longer_if_front_is : {X : Type 0} {c : X → X → Ordering} (o : IsTotalOrder c) {P : X → Type 0} (n : ℕ) (xs ys : List X) → IsFront c P xs → n < length xs → IsListing c P ys → n < length ys
longer_if_front_is o n xs ys f l all = longer_if_more n ys (λ x p. (all.exact x).1 p) (front_has_more o n xs f l)

-- Lists that ascend, appended and mapped.
use Rattle.std.proofs.Common.{◌≡◌, List, [], ◌∷◌, ◌++◌, map, All, Contains, ap, ◌∙◌}
use Rattle.std.specs.declared.cmp.Ordering.{Ordering}
use Rattle.std.specs.declared.cmp.Ordering.TheVariants.{Less}
use Rattle.std.specs.Ordering.{ordering_then}
use Rattle.std.specs.Cmp.{IsTotalOrder}
use Rattle.std.specs.List.{flat_map}
use Rattle.std.specs.List.Sorted.{IsStrictlySortedBy}
use Rattle.std.proofs.lemmas.Cmp.{tied_itself}
use Rattle.std.proofs.lemmas.List.Elements.{All-append, All-map, All-weaker, All-contains, All-from_recursion, recursion_from_All, Contains-get_or}
use Rattle.list_laws.proofs.Members.{here, there, flat_map_had}
use Rattle.list_laws.proofs.Places.{nothing_ascends}

pub ascends-append : {X : Type 0} (c : X → X → Ordering) (xs ys : List X) → IsStrictlySortedBy c xs → IsStrictlySortedBy c ys →
    ((x y : X) → Contains xs x → Contains ys y → c x y ≡ Less) → IsStrictlySortedBy c (xs ++ ys)
unfolding IsStrictlySortedBy
ascends-append c [] ys s t h = t
ascends-append c (x ∷ xs) ys s t h =
    let below = All-append (λ y. c x y ≡ Less) xs ys (All-from_recursion (λ y. c x y ≡ Less) xs s.0) (λ k d l. h x _ (here x xs) (Contains-get_or ys k d l)) in
    (recursion_from_All (λ y. c x y ≡ Less) (xs ++ ys) below, ascends-append c xs ys s.1 t (λ a b i j. h a b (there x a xs i) j))

module _ {X Y : Type 0} (c : X → X → Ordering) (e : Y → Y → Ordering) where
  pub ascends-map : (f : X → Y) → ((x y : X) → c x y ≡ Less → e (f x) (f y) ≡ Less) → (xs : List X) → IsStrictlySortedBy c xs → IsStrictlySortedBy e (map f xs)
  unfolding IsStrictlySortedBy
  ascends-map f keeps [] s = nothing_ascends e
  ascends-map f keeps (x ∷ xs) s =
      let above : All (λ y. e (f x) (f y) ≡ Less) xs = All-weaker (λ y. c x y ≡ Less) (λ y. e (f x) (f y) ≡ Less) (keeps x) xs (All-from_recursion (λ y. c x y ≡ Less) xs s.0) in
      (recursion_from_All (λ y. e (f x) y ≡ Less) (map f xs) (All-map (λ y. e (f x) y ≡ Less) f xs above), ascends-map f keeps xs s.1)

  pub ascends-flat_map : (f : X → List Y) → ((x : X) → IsStrictlySortedBy e (f x)) → ((x y : X) (a b : Y) → c x y ≡ Less → Contains (f x) a → Contains (f y) b → e a b ≡ Less) →
      (xs : List X) → IsStrictlySortedBy c xs → IsStrictlySortedBy e (flat_map f xs)
  unfolding IsStrictlySortedBy
  ascends-flat_map f each cross [] s = nothing_ascends e
  ascends-flat_map f each cross (x ∷ xs) s =
      ascends-append e (f x) (flat_map f xs) (each x) (ascends-flat_map f each cross xs s.1) (λ a b i j.
      let h = flat_map_had f xs b j in
      cross x h.0 a b (All-contains (λ y. c x y ≡ Less) xs h.0 (All-from_recursion (λ y. c x y ≡ Less) xs s.0) h.1) i h.2)

-- ---- what decides

pub first_decides : (r s : Ordering) → r ≡ Less → ordering_then r s ≡ Less
first_decides r s e = ap (λ r. ordering_then r s) e

pub second_decides : {K : Type 0} {c : K → K → Ordering} → IsTotalOrder c → (x : K) (s : Ordering) → s ≡ Less → ordering_then (c x x) s ≡ Less
second_decides o x s e = ap (λ r. ordering_then r s) (tied_itself o x) ∙ e

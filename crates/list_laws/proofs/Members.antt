-- Members of lists, and what holds of each of them.
use Rattle.std.proofs.Common.{◌≡◌, ◌↔◌, ◌⊎◌, ℕ, zero, suc, ◌<◌, Bool, true, false, ◌==◌, ◌||◌, List, [], ◌∷◌, map, length, get_or, slice_get, Some, Result, Ok, Err, IsTrue, OnOk, OnErr, All, Contains, refl, sym, ap, ◌∙◌, subst, inl, inr, ⊎_elim, arith}
use Rattle.std.specs.List.{list_any, flat_map}
use Rattle.std.proofs.lemmas.Cmp.{nat_eq_equiv}
use Rattle.std.proofs.lemmas.List.Elements.{All-weaker, All-contains, All-contains_itself, Contains-append_left, Contains-append_right, Contains-append_cases}
use Rattle.std.proofs.lemmas.Map.Views.{Contains-from_any, list_any-from_Contains, exact_unsigned_eq}
use Rattle.std.proofs.lemmas.Option.{get_or_from_slice_get, slice_get_within}
use Rattle.list_laws.specs.Lists.{IsUnion}

module _ {X : Type 0} where
  pub here : (x : X) (xs : List X) → Contains (x ∷ xs) x
  here x xs = (0, omega arith, refl)

  pub there : (x y : X) (xs : List X) → Contains xs y → Contains (x ∷ xs) y
  there x y xs c = (suc c.0, omega (arith, c.1), c.2)

  pub parts : (x y : X) (xs : List X) → Contains (x ∷ xs) y → (x ≡ y) ⊎ Contains xs y
  parts x y xs c = go c.0 c.1 c.2
    where
      go : (k : ℕ) → k < length (x ∷ xs) → get_or (x ∷ xs) k y ≡ y → (x ≡ y) ⊎ Contains xs y
      go zero l e = inl e
      go (suc k) l e = inr (k, omega arith, e)

  pub none : (y : X) → Contains [] y → ⊥
  none y c = omega (arith, c.1)

-- ---- equal lists

pub not_empty : {X : Type 0} (x : X) (xs : List X) → [] ≡ x ∷ xs → ⊥
not_empty x xs e = absurd (cc)

pub same_first : {X : Type 0} (x y : X) (xs ys : List X) → x ∷ xs ≡ y ∷ ys → x ≡ y
same_first x y xs ys e = cc

pub same_rest : {X : Type 0} (x y : X) (xs ys : List X) → x ∷ xs ≡ y ∷ ys → xs ≡ ys
same_rest x y xs ys e = cc

-- ---- a test

-- what a search by equality has found
pub found : (xs : List ℕ) (q : ℕ) (r : Bool) → r ≡ list_any (λ y. y == q) xs → r ≡ true → Contains xs q
found [] q r e t = absurd (cc)
found (x ∷ xs) q r e t = go (found xs q (list_any (λ y. y == q) xs) refl) (x == q) refl (sym e ∙ t)
  where
    go : (list_any (λ y. y == q) xs ≡ true → Contains xs q) → (b : Bool) → (x == q) ≡ b → (b || list_any (λ y. y == q) xs) ≡ true → Contains (x ∷ xs) q
    go rest true h u = subst (Contains (x ∷ xs)) (exact_unsigned_eq x q h) (here x xs)
    go rest false h u = there x q xs (rest u)

-- what a search by equality finds
pub is_member : (keys : List ℕ) (q : ℕ) (r : Bool) → r ≡ list_any (λ y. q == y) keys → IsTrue r ↔ Contains keys q
is_member keys q r e = (λ t. Contains-from_any exact_unsigned_eq q keys (sym e ∙ t), λ c. e ∙ list_any-from_Contains nat_eq_equiv q keys c)

-- ---- mapped lists

module _ {X Y : Type 0} where
  pub map_has : (f : X → Y) (xs : List X) (x : X) (y : Y) → Contains xs x → f x ≡ y → Contains (map f xs) y
  map_has f [] x y c e = absurd (none x c)
  map_has f (z ∷ xs) x y c e =
      ⊎_elim (λ same. subst (Contains (f z ∷ map f xs)) (ap f same ∙ e) (here (f z) (map f xs))) (λ later. there (f z) y (map f xs) (map_has f xs x y later e)) (parts z x xs c)

  pub map_had : (f : X → Y) (xs : List X) (y : Y) → Contains (map f xs) y → (x : X) × Contains xs x × (f x ≡ y)
  map_had f [] y c = absurd (none y c)
  map_had f (x ∷ xs) y c =
      ⊎_elim (λ same. (x, here x xs, same)) (λ later. let h = map_had f xs y later in (h.0, there x h.0 xs h.1, h.2)) (parts (f x) y (map f xs) c)

  pub flat_map_has : (f : X → List Y) (xs : List X) (x : X) (y : Y) → Contains xs x → Contains (f x) y → Contains (flat_map f xs) y
  flat_map_has f [] x y c d = absurd (none x c)
  flat_map_has f (z ∷ xs) x y c d =
      ⊎_elim (λ same. Contains-append_left (f z) (flat_map f xs) y (subst (λ w. Contains (f w) y) (sym same) d))
      (λ later. Contains-append_right (f z) (flat_map f xs) y (flat_map_has f xs x y later d)) (parts z x xs c)

  pub flat_map_had : (f : X → List Y) (xs : List X) (y : Y) → Contains (flat_map f xs) y → (x : X) × Contains xs x × Contains (f x) y
  flat_map_had f [] y c = absurd (none y c)
  flat_map_had f (x ∷ xs) y c =
      ⊎_elim (λ first. (x, here x xs, first)) (λ later. let h = flat_map_had f xs y later in (h.0, there x h.0 xs h.1, h.2)) (Contains-append_cases (f x) (flat_map f xs) y c)

-- ---- what holds of each member

-- what holds of all members holds of all of a list whose members are those
pub all_from_members : {X : Type 0} (P : X → Type 0) (xs : List X) → ((x : X) → Contains xs x → P x) → All P xs
all_from_members P xs f = All-weaker (Contains xs) P f xs (All-contains_itself xs)

pub all_union : {X : Type 0} (P : X → Type 0) (xs ys all : List X) → IsUnion xs ys all → All P xs → All P ys → All P all
all_union P xs ys all u a b =
    all_from_members P all (λ x c. ⊎_elim (λ h. All-contains P xs x a h) (λ h. All-contains P ys x b h) ((u x).0 c))

-- the same for a call that may have been refused
pub all_after : {X B E : Type 0} (P : X → Type 0) (old more new : List X) (r : Result B E) → OnOk r (IsUnion old more new) → OnErr r (new ≡ old) → All P old → All P more → All P new
all_after P old more new (Ok b) ok err a m = all_union P old more new ok a m
all_after P old more new (Err e) ok err a m = subst (All P) (sym err) a

pub all_one : {X : Type 0} (P : X → Type 0) (x : X) → P x → All P (x ∷ [])
all_one P x h = all_from_members P (x ∷ []) (λ y c. ⊎_elim (λ e. subst P e h) (λ t. absurd (none y t)) (parts x y [] c))

-- what holds of each element holds of the one at a place
pub at_place : {X : Type 0} (P : X → Type 0) (xs : List X) (i : ℕ) (x : X) → All P xs → slice_get xs i ≡ Some x → P x
at_place P xs i x all e = subst P (get_or_from_slice_get xs i x x e) (all i x (slice_get_within xs i x e))

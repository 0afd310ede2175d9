-- Laws of lists of whatever has a property.
use Rattle.std.specs.Prelude.{◌≡◌, ◌<◌, ℕ, List, [], ◌∷◌, ◌++◌, length, Contains}
use Rattle.std.specs.declared.cmp.Ordering.{Ordering}
use Rattle.std.specs.Cmp.{IsTotalOrder}
use Rattle.std.specs.List.Sorted.{IsStrictlySortedBy}
use Rattle.list_laws.specs.Listings.{IsListing, IsFront, HasMoreThan, IsFirst}

-- there is at most one list of whatever has the property
abbrev pub ListingsAreOne : {X : Type 0} → (X → X → Ordering) → (X → Type 0) → Type 0
ListingsAreOne {X} order P = IsTotalOrder order → (xs ys : List X) → IsListing order P xs → IsListing order P ys → xs ≡ ys

-- what comes first of it is a front of the list
abbrev pub FrontsBeginListings : {X : Type 0} → (X → X → Ordering) → (X → Type 0) → Type 0
FrontsBeginListings {X} order P = IsTotalOrder order → (xs ys : List X) → IsFront order P xs → IsListing order P ys → (rest : List X) × (ys ≡ xs ++ rest)

-- so many in a front are so many that have the property
abbrev pub LongFrontsAreMore : {X : Type 0} → (X → X → Ordering) → (X → Type 0) → Type 0
LongFrontsAreMore {X} order P = IsTotalOrder order → (n : ℕ) (xs : List X) → IsFront order P xs → n < length xs → HasMoreThan n P

-- where more than so many have the property, a list of all that have it is longer
abbrev pub MoreMakeLonger : {X : Type 0} → (X → Type 0) → Type 0
MoreMakeLonger {X} P = (n : ℕ) (xs : List X) → ((x : X) → P x → Contains xs x) → HasMoreThan n P → n < length xs

-- the first one of a list that ascends comes before whatever else of the list is one
abbrev pub FirstsAreFronts : {X : Type 0} → (X → X → Ordering) → (X → Type 0) → (X → Type 0) → Type 0
FirstsAreFronts {X} order Is Not = IsTotalOrder order → ((x : X) → Is x → Not x → ⊥) → (xs : List X) (x : X) → IsStrictlySortedBy order xs → IsFirst Is Not xs x → IsFront order (λ y. Contains xs y × Is y) (x ∷ [])

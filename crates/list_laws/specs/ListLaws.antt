-- Laws of lists: insertions in order, places, ends, and lists in parts.
use Rattle.std.specs.Prelude.{◌≡◌, ◌≢◌, ◌↔◌, ◌⊎◌, ℕ, Bool, true, false, ◌||◌, ◌-◌, ◌==◌, List, [], ◌∷◌, ◌++◌, map, length, slice_index, Contains, Result}
use Rattle.std.specs.declared.cmp.Ordering.{Ordering}
use Rattle.std.specs.declared.cmp.Ordering.TheVariants.{Less, Equal}
use Rattle.std.specs.Ordering.{nat_cmp}
use Rattle.std.specs.Cmp.{IsTotalOrder}
use Rattle.std.specs.List.{AllPairs, AllZip, slice_get, position_or_len}
use Rattle.std.specs.List.Sorted.{IsStrictlySortedBy, IsSearchInRange, IsBinarySearchResult}
use Rattle.std.specs.BTreeSet.{insert_key}
use Rattle.std.specs.Result.{is_ok}
use Rattle.indexmap.specs.IndexSet as at_end
use Rattle.list_laws.specs.Lists.{IsUnion, Decided}
use Rattle.list_laws.specs.Listings.{IsListing}

-- the order answers `Equal` for the same thing alone
abbrev pub TellsApart : {X : Type 0} → (X → X → Ordering) → Type 0
TellsApart {X} order = (x y : X) → order x y ≡ Equal → x ≡ y

-- an insertion adds the one thing
abbrev pub InsertionsAdd : {X : Type 0} → (X → X → Ordering) → Type 0
InsertionsAdd {X} order = IsTotalOrder order → TellsApart order → (xs : List X) (x : X) → IsUnion xs (x ∷ []) (insert_key order xs x)

-- and the list still ascends
abbrev pub InsertionsAscend : {X : Type 0} → (X → X → Ordering) → Type 0
InsertionsAscend {X} order = IsTotalOrder order → (xs : List X) (x : X) → IsStrictlySortedBy order xs → IsStrictlySortedBy order (insert_key order xs x)

-- two lists that ascend, where the one comes before the other, ascend as one
abbrev pub PartsAscend : {X : Type 0} → (X → X → Ordering) → Type 0
PartsAscend {X} order = (xs ys : List X) → IsStrictlySortedBy order xs → IsStrictlySortedBy order ys → ((x y : X) → Contains xs x → Contains ys y → order x y ≡ Less) → IsStrictlySortedBy order (xs ++ ys)

-- what is decided, and has all of it in some list, has a listing
abbrev pub DecidedAreListed : {X : Type 0} → (X → X → Ordering) → (X → Type 0) → Type 0
DecidedAreListed {X} order P = IsTotalOrder order → TellsApart order → ((x : X) → Decided (P x)) → (all : List X) → ((x : X) → P x → Contains all x) → (xs : List X) × IsListing order P xs

-- a list ends as its second part does
abbrev pub EndsStay : Type 0 → Type 0
EndsStay X = (before : List X) (x : X) (xs : List X) → slice_get (before ++ x ∷ xs) (length (before ++ x ∷ xs) - 1) ≡ slice_get (x ∷ xs) (length (x ∷ xs) - 1)

-- a binary search in numbers that ascend finds those that are there
abbrev pub SearchesFind : Type 0
SearchesFind = (numbers : List ℕ) (n : ℕ) (r : Result ℕ ℕ) → IsStrictlySortedBy nat_cmp numbers → IsSearchInRange r (length numbers) → IsBinarySearchResult (λ y. nat_cmp y n) numbers r → (is_ok r ≡ true) ↔ Contains numbers n

-- at the first place of a number stands, in the mapped list, what it is mapped to
abbrev pub PlacesStay : Type 0
PlacesStay = (f : ℕ → ℕ) (n : ℕ) (xs : List ℕ) → Contains xs n → slice_index (map f xs) (position_or_len (λ x. n == x) xs) ≡ f n

-- where no two numbers are the same, none stands in both parts
abbrev pub PartsDiffer : Type 0
PartsDiffer = (xs ys : List ℕ) (n : ℕ) → AllPairs (λ x y. x ≢ y) (xs ++ ys) → Contains xs n → Contains ys n → ⊥

-- as many numbers as sets, where each is a member of the set at its place
abbrev pub FitsAreLong : Type 0
FitsAreLong = (sets : List (List ℕ)) (xs : List ℕ) → AllZip Contains sets xs → length sets ≡ length xs

-- an insertion at the end adds a number that isn't there
abbrev pub InsertionsGrow : Type 0
InsertionsGrow = (numbers : List ℕ) (n x : ℕ) → Contains (at_end.insert_key ◌==◌ numbers n) x ↔ (Contains numbers x ⊎ (n ≡ x))

-- where not one of two tests is passed, neither is
abbrev pub NeitherPasses : Type 0
NeitherPasses = (a b : Bool) → (a || b) ≡ false → (a ≡ false) × (b ≡ false)

-- Lists of whatever has a property: all of it in ascending order, what comes first of it, more of it than a number, and the first one of a list.
use Rattle.std.specs.Prelude.{◌≡◌, ◌≢◌, ◌⊎◌, ◌↔◌, ◌<◌, ℕ, List, ◌∷◌, ◌++◌, length, All, Contains}
use Rattle.std.specs.List.{AllPairs}
use Rattle.std.specs.declared.cmp.Ordering.{Ordering}
use Rattle.std.specs.declared.cmp.Ordering.TheVariants.{Less}
use Rattle.std.specs.List.Sorted.{IsStrictlySortedBy}

-- whatever has the property and nothing else, in ascending order, so each once
pub record IsListing {X : Type 0} (order : X → X → Ordering) (P : X → Type 0) (xs : List X) : Type 0 where
  pub ascends : IsStrictlySortedBy order xs
  pub exact : (x : X) → Contains xs x ↔ P x

-- what comes first of whatever has the property: whatever else has it comes after all of these
pub record IsFront {X : Type 0} (order : X → X → Ordering) (P : X → Type 0) (xs : List X) : Type 0 where
  pub ascends : IsStrictlySortedBy order xs
  pub each : (x : X) → Contains xs x → P x
  pub first : (x : X) → P x → Contains xs x ⊎ All (λ y. order y x ≡ Less) xs

-- more than so many have the property
pub record HasMoreThan {X : Type 0} (limit : ℕ) (P : X → Type 0) : Type 0 where
  pub some : List X
  pub distinct : AllPairs (λ x y. x ≢ y) some
  pub each : (x : X) → Contains some x → P x
  pub more : limit < length some

-- the member of the list has the property, and each one before it has the other one
pub record IsFirst {X : Type 0} (Is Not : X → Type 0) (xs : List X) (x : X) : Type 0 where
  pub before : List X
  pub after : List X
  pub splits : xs ≡ before ++ x ∷ after
  pub is : Is x
  pub earlier : All Not before

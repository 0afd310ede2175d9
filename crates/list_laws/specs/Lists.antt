-- Members of lists by an order, unions, and what is decided.
use Rattle.std.specs.Prelude.{◌⊎◌, ◌↔◌, Bool, List}
use Rattle.std.specs.declared.cmp.Ordering.{Ordering}
use Rattle.std.specs.List.{list_any, Contains}
use Rattle.std.specs.Ordering.{is_eq}

-- whether a member is equal to the key by this order
abbrev pub has : {K : Type 0} → (K → K → Ordering) → List K → K → Bool
has R xs k = list_any (λ y. is_eq (R k y)) xs

-- the members of the third list are those of the first two
abbrev pub IsUnion : {K : Type 0} → List K → List K → List K → Type 0
IsUnion {K} xs ys all = (x : K) → Contains all x ↔ (Contains xs x ⊎ Contains ys x)

-- it holds or doesn't
abbrev pub Decided : Type 0 → Type 0
Decided P = P ⊎ (P → ⊥)

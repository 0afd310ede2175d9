-- Lists put in order.
use Rattle.std.specs.Prelude.{◌≡◌, ◌↔◌, List, [], ◌∷◌, ◌++◌}
use Rattle.std.specs.declared.cmp.Ordering.{Ordering}
use Rattle.std.specs.List.{Contains}
use Rattle.std.specs.List.Sorted.{IsStrictlySortedBy}
use Rattle.std.specs.Cmp.{IsTotalOrder}
use Rattle.std.specs.BTreeSet.{insert_key}
use Rattle.list_laws.specs.Lists.{IsUnion}
use Rattle.list_laws.specs.ListLaws.{TellsApart}

-- the members of a list in order, each once
abbrev pub in_order : {K : Type 0} → (K → K → Ordering) → List K → List K
in_order cmp [] = []
in_order cmp (x ∷ xs) = insert_key cmp (in_order cmp xs) x

-- a list in order has the members of the list, and ascends
abbrev pub ListsInOrderAscend : {K : Type 0} → (K → K → Ordering) → Type 0
ListsInOrderAscend {K} cmp = IsTotalOrder cmp → (xs : List K) → IsStrictlySortedBy cmp (in_order cmp xs)

abbrev pub ListsInOrderHaveAll : {K : Type 0} → (K → K → Ordering) → Type 0
ListsInOrderHaveAll {K} cmp = IsTotalOrder cmp → TellsApart cmp → (xs : List K) (x : K) → Contains (in_order cmp xs) x ↔ Contains xs x

-- an ascending union of two lists is the two in order
abbrev pub UnionsAreInOrder : {K : Type 0} → (K → K → Ordering) → Type 0
UnionsAreInOrder {K} cmp = IsTotalOrder cmp → TellsApart cmp → (xs ys all : List K) → IsUnion xs ys all → IsStrictlySortedBy cmp all → all ≡ in_order cmp (xs ++ ys)

-- members that are kept aside in order stand where they would stand at once
abbrev pub InsertionsAside : {K : Type 0} → (K → K → Ordering) → Type 0
InsertionsAside {K} cmp = IsTotalOrder cmp → TellsApart cmp → (xs ys : List K) (k : K) → in_order cmp (xs ++ insert_key cmp ys k) ≡ insert_key cmp (in_order cmp (xs ++ ys)) k

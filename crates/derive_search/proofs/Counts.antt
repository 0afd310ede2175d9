-- How many things have a property, from a list of them.
use Rattle.std.proofs.Common.{◌≡◌, ◌≢◌, ℕ, ◌+◌, ◌≤◌, List, length, arith}
use Rattle.std.specs.List.{All, AllPairs, Contains}
use Rattle.std.proofs.lemmas.List.Elements.{All-contains}
use Rattle.list_laws.specs.Listings.{HasMoreThan}
use Rattle.list_laws.proofs.Listings.{longer_if_more}

-- a list with all things of a property, of at most n members, shows that no more than n have it
pub at_most : {T : Type 0} (P : T → Type 0) (xs : List T) (n : ℕ) → ((x : T) → P x → Contains xs x) → length xs ≤ n → HasMoreThan n P → ⊥
at_most P xs n all l many = let m = longer_if_more n xs all many in omega (arith, m, l)

-- and a list without doubles of n + 1 of them that more than n do
pub more_than : {T : Type 0} (P : T → Type 0) (xs : List T) (n : ℕ) → AllPairs (λ x y. x ≢ y) xs → All P xs → length xs ≡ n + 1 → HasMoreThan n P
more_than P xs n apart have l = record { some = xs; distinct = apart; each = λ x c. All-contains P xs x have c; more = omega (arith, l) }

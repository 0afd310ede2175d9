-- What one `take` does to what a shelf tells (this project's own).
use Rattle.std.specs.Prelude.{◌≡◌, ◌≢◌, ℕ, ◌<◌, List, Option, Result, Ok, Err, take, length}
use Rattle.std.specs.Io.KnownBytes.{Consumes, IsAtEnd}

-- what a file has left before and after it gave the first n bytes of buf, none only at its end or with no room; a refusal leaves it
abbrev pub Takes : {E : Type 0} → Option (List ℕ) → Option (List ℕ) → Result ℕ E → List ℕ → Type 0
Takes old new (Ok n) buf = Consumes old new (take n buf) × (n ≡ 0 → 0 < length buf → IsAtEnd new)
Takes old new (Err e) buf = new ≡ old

-- what is told of each name but this one stays
abbrev pub OthersStay : {X : Type 0} → (List ℕ → X) → (List ℕ → X) → List ℕ → Type 0
OthersStay old new name = (other : List ℕ) → other ≢ name → new other ≡ old other

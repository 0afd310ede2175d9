-- The least member of a list with a property. It serves private contracts alone.
use Rattle.std.specs.Prelude.{ℕ, ◌≤◌, List, Contains}

pub record IsLeastIn (P : ℕ → Type 0) (xs : List ℕ) (q : ℕ) : Type 0 where
  pub has : Contains xs q
  pub is : P q
  pub least : (s : ℕ) → Contains xs s → P s → q ≤ s

-- What edges between numbers lead to.
use Rattle.std.specs.Prelude.{◌↔◌, ◌<◌, ℕ, List, [], length, get_or, Contains}
use Rattle.reach_rows.specs.Bits.{Has}

-- by edges of the list, in any number of steps
pub data Path (edges : List (ℕ × ℕ)) : ℕ → ℕ → Type 0 where
  here : {p : ℕ} → Path edges p p
  on : {p q r : ℕ} → Contains edges (p, q) → Path edges q r → Path edges p r

-- a row for each number: what it leads to
abbrev pub AreReached : List (ℕ × ℕ) → List (List ℕ) → Type 0
AreReached edges rows = (p q : ℕ) → p < length rows → (Has (get_or rows p []) q ↔ Path edges p q)

-- both ends are below the bound
abbrev pub IsEdgeBelow : ℕ → ℕ × ℕ → Type 0
IsEdgeBelow size e = (e.0 < size) × (e.1 < size)

-- a row for each number: what leads to it
abbrev pub LeadThere : List (ℕ × ℕ) → List (List ℕ) → Type 0
LeadThere edges rows = (p q : ℕ) → p < length rows → (Has (get_or rows p []) q ↔ Path edges q p)

abbrev pub turn_edge : ℕ × ℕ → ℕ × ℕ
turn_edge e = (e.1, e.0)

-- in the row of a member
pub record IsInRow (rows : List (List ℕ)) (members : List ℕ) (q : ℕ) : Type 0 where
  pub from : ℕ
  pub member : Contains members from
  pub has : Has (get_or rows from []) q

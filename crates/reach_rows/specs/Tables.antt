-- Rows that grow until they have what edges lead to. These serve private contracts alone.
use Rattle.std.specs.Prelude.{◌≡◌, ◌≢◌, ◌↔◌, ◌⊎◌, ◌<◌, ◌≤◌, ℕ, Bool, true, false, List, [], length, get_or, All, Contains}
use Rattle.std.specs.List.{sum_by}
use Rattle.reach_rows.specs.Bits.{Has, left_of}
use Rattle.reach_rows.specs.Paths.{Path}

-- a row for each number, of so many words; and how many edges can be turned round
pub record Rows : Type 0 where
  pub rows : List (List ℕ)
  pub width : ℕ
  pub edges : ℕ

abbrev pub AreWide : ℕ → List (List ℕ) → Type 0
AreWide width rows = All (λ (row : List ℕ). length row ≡ width) rows

-- each row has its own number, and nothing but what its number leads to
pub record AreReaching (edges : List (ℕ × ℕ)) (rows : List (List ℕ)) : Type 0 where
  pub here : (p : ℕ) → p < length rows → Has (get_or rows p []) p
  pub sound : (p q : ℕ) → p < length rows → Has (get_or rows p []) q → Path edges p q

-- falls when bits are set; this serves termination alone
abbrev pub rows_left : List (List ℕ) → ℕ
rows_left rows = sum_by left_of rows

-- one row has the members of another one besides its own
pub record Joins (old new : List (List ℕ)) (p q : ℕ) (more : Bool) : Type 0 where
  pub long : length new ≡ length old
  pub members : (x : ℕ) → Has (get_or new p []) x ↔ (Has (get_or old p []) x ⊎ Has (get_or old q []) x)
  pub others : (r : ℕ) → r ≢ p → get_or new r [] ≡ get_or old r []
  pub at_most : rows_left new ≤ rows_left old
  pub falls : more ≡ true → rows_left new < rows_left old
  pub same : more ≡ false → new ≡ old

-- the edge leads to nothing that isn't in the row
abbrev pub IsSettled : List (List ℕ) → ℕ × ℕ → Type 0
IsSettled rows e = (x : ℕ) → Has (get_or rows e.1 []) x → Has (get_or rows e.0 []) x

-- rows that may have grown; where they haven't, each of these edges is settled
pub record Passes (edges done : List (ℕ × ℕ)) (old new : List (List ℕ)) (more : Bool) : Type 0 where
  pub long : length new ≡ length old
  pub reaching : AreReaching edges new
  pub at_most : rows_left new ≤ rows_left old
  pub falls : more ≡ true → rows_left new < rows_left old
  pub same : more ≡ false → new ≡ old
  pub settled : more ≡ false → (e : ℕ × ℕ) → Contains done e → IsSettled old e

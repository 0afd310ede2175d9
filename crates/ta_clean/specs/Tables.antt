-- Pairs of states that are marked in a table of two bounds, row by row.
use Rattle.std.specs.Prelude.{◌≡◌, ◌≢◌, ◌⊎◌, ℕ, ◌+◌, ◌*◌, ◌<◌, ◌≤◌, List, get_or, length, sum_by}
use Rattle.ta_core.specs.Limits.{max_states}
use Rattle.ta_clean.specs.declared.meeting.grid.Mark.{Mark}
use Rattle.ta_clean.specs.declared.meeting.grid.Mark.TheVariants.{Unmarked, Waiting, Taken}

-- a mark for each pair of a number below the height and one below the width, by the first and then by the second
pub record Table : Type 0 where
  pub height : ℕ
  pub width : ℕ
  pub marks : List Mark

-- it has so many marks, and both bounds are small
pub record IsTable (table : Table) : Type 0 where
  pub low : table.height ≤ max_states
  pub narrow : table.width ≤ max_states
  pub full : length table.marks ≡ table.height * table.width

-- both numbers are below the bounds
pub record IsIn (table : Table) (pair : ℕ × ℕ) : Type 0 where
  pub first : pair.0 < table.height
  pub second : pair.1 < table.width

abbrev pub place_of : Table → ℕ × ℕ → ℕ
place_of table pair = pair.0 * table.width + pair.1

abbrev pub mark_of : Table → ℕ × ℕ → Mark
mark_of table pair = get_or table.marks (place_of table pair) Unmarked

pub record IsMarked (table : Table) (pair : ℕ × ℕ) : Type 0 where
  pub within : IsIn table pair
  pub marked : mark_of table pair ≢ Unmarked

-- ---- what serves private contracts alone

pub record IsTaken (table : Table) (pair : ℕ × ℕ) : Type 0 where
  pub within : IsIn table pair
  pub taken : mark_of table pair ≡ Taken

-- 1 for a mark of a pair that isn't taken
abbrev pub weight_of : Mark → ℕ
weight_of Unmarked = 1
weight_of Waiting = 1
weight_of Taken = 0

-- how many pairs aren't taken
abbrev pub count_left : Table → ℕ
count_left table = sum_by weight_of table.marks

-- the table has the same bounds, what was marked is marked, and no more is taken
pub record Keeps (old new : Table) : Type 0 where
  pub height : new.height ≡ old.height
  pub width : new.width ≡ old.width
  pub marked : (pair : ℕ × ℕ) → IsMarked old pair → IsMarked new pair
  pub taken : (pair : ℕ × ℕ) → IsTaken new pair → IsTaken old pair
  pub left : count_left new ≤ count_left old

-- the pair was marked, and is taken now; nothing else changed
pub record TakesOne (old new : Table) (pair : ℕ × ℕ) : Type 0 where
  pub height : new.height ≡ old.height
  pub width : new.width ≡ old.width
  pub was : IsMarked old pair
  pub marked : (next : ℕ × ℕ) → IsMarked old next → IsMarked new next
  pub no_more : (next : ℕ × ℕ) → IsMarked new next → IsMarked old next
  pub taken : (next : ℕ × ℕ) → IsTaken new next → IsTaken old next ⊎ (next ≡ pair)
  pub fewer : count_left new < count_left old

-- nothing is marked, in a table of the same bounds
pub record IsCleared (old new : Table) : Type 0 where
  pub height : new.height ≡ old.height
  pub width : new.width ≡ old.width
  pub none : (pair : ℕ × ℕ) → IsMarked new pair → ⊥

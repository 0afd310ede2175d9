-- Sets of states, as lists or as bits, and a table of what epsilon transitions lead to. These serve private contracts alone.
use Rattle.std.specs.Prelude.{◌≤◌, ◌/◌, ◌%◌, ℕ, zero, suc, cond, ◌==◌, List, [], ◌∷◌, ◌++◌, get_or, length, Option, None, Some}
use Rattle.std.specs.Int.{bit_at}
use Rattle.reach_rows.specs.Paths.{AreReached}
use Rattle.reach_rows.specs.Tables.{Rows}
use Rattle.ta_core.specs.TreeAutomaton.{TreeAutomaton}

-- the numbers below the bound whose bits are set among the words
abbrev pub members_of : List ℕ → ℕ → List ℕ
members_of words zero = []
members_of words (suc n) = members_of words n ++ cond (bit_at (get_or words (n / 64) 0) (n % 64) == 1) (n ∷ []) []

-- what is listed, and where there are bits the numbers below the size that they have
abbrev pub members_by : ℕ → List ℕ → Option (List ℕ) → List ℕ
members_by size list None = list
members_by size list (Some words) = members_of words size

-- the rows have what the epsilon transitions lead to from each state
pub record LeadsOn (A : TreeAutomaton) (reach : Rows) : Type 0 where
  pub long : A.next ≤ length reach.rows
  pub reached : AreReached A.eps reach.rows

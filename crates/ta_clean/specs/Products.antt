-- The pairs of states that marked pairs lead on to, by the transitions of both automata (TATA, section 1.3). These serve private contracts alone,
-- but for `HasRoom`.
use Rattle.std.specs.Prelude.{◌≡◌, ℕ, ◌≤◌, List, length, zip, Some, slice_get, All, Contains}
use Rattle.ta_core.specs.TreeAutomaton.{TreeAutomaton}
use Rattle.ta_core.specs.declared.trans.Trans.{Trans}
use Rattle.ta_core.specs.Meeting.{Meets}
use Rattle.ta_clean.specs.Tables.{Table, IsMarked}
use Rattle.ta_clean.specs.Uses.{places_of}
use Rattle.ta_clean.specs.declared.meeting.uses.Use.{Use}

-- the memory for the pairs of two automata: a table, and uses of the states of both
pub record PairRoom : Type 0 where
  pub table : Table
  pub first_uses : ℕ
  pub second_uses : ℕ

-- it is enough for these automata
pub record HasRoom (room : PairRoom) (A B : TreeAutomaton) : Type 0 where
  pub first : A.next ≤ room.table.height
  pub second : B.next ≤ room.table.width
  pub first_uses : places_of A.trans ≤ room.first_uses
  pub second_uses : places_of B.trans ≤ room.second_uses

-- two automata
pub record TwoAutomata : Type 0 where
  pub first : TreeAutomaton
  pub second : TreeAutomaton

-- the states of both are below the bounds of the table
pub record HasTable (both : TwoAutomata) (table : Table) : Type 0 where
  pub first : both.first.next ≤ table.height
  pub second : both.second.next ≤ table.width

-- to both states of each marked pair, one ground term runs
abbrev pub AllMeet : TwoAutomata → Table → Type 0
AllMeet both table = (pair : ℕ × ℕ) → IsMarked table pair → Meets both.first both.second pair

-- there are as many of both states, and each two at one place are such a pair
pub record AreAll (P : ℕ × ℕ → Type 0) (ps qs : List ℕ) : Type 0 where
  pub count : length ps ≡ length qs
  pub each : All P (zip ps qs)

-- an epsilon transition of one of the automata leads from the pair to the next
pub data StepsTo (both : TwoAutomata) (pair : ℕ × ℕ) : ℕ × ℕ → Type 0 where
  first : {p : ℕ} → Contains both.first.eps (pair.0, p) → StepsTo both pair (p, pair.1)
  second : {q : ℕ} → Contains both.second.eps (pair.1, q) → StepsTo both pair (pair.0, q)

-- two transitions of one symbol, whose pairs of arguments are such, lead to the next pair
pub record Enters (both : TwoAutomata) (P : ℕ × ℕ → Type 0) (left right : Trans) (next : ℕ × ℕ) : Type 0 where
  pub first : Contains both.first.trans left
  pub second : Contains both.second.trans right
  pub same : left.sym ≡ right.sym
  pub all : AreAll P left.args right.args
  pub leads : next ≡ (left.to, right.to)

-- two such transitions: that of the use, and one with this state at the same place
pub record EntersBy (both : TwoAutomata) (P : ℕ × ℕ → Type 0) (used : Use) (second : ℕ) (next : ℕ × ℕ) : Type 0 where
  pub left : Trans
  pub right : Trans
  pub at : slice_get both.first.trans used.position ≡ Some left
  pub there : slice_get right.args used.slot.place ≡ Some second
  pub enters : Enters both P left right next

-- two such transitions, with the pair among the pairs of their arguments
pub record EntersAt (both : TwoAutomata) (P : ℕ × ℕ → Type 0) (pair next : ℕ × ℕ) : Type 0 where
  pub left : Trans
  pub right : Trans
  pub there : Contains (zip left.args right.args) pair
  pub enters : Enters both P left right next

-- two such transitions of a constant
pub record Starts (both : TwoAutomata) (next : ℕ × ℕ) : Type 0 where
  pub left : Trans
  pub right : Trans
  pub enters : Enters both (λ _. ⊥) left right next

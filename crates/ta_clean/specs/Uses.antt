-- Where states stand among the arguments of transitions. These serve private contracts alone, but for `places_of`.
use Rattle.std.specs.Prelude.{◌≡◌, ◌↔◌, ℕ, List, map, sum, length, Some, slice_get, Contains}
use Rattle.ta_core.specs.declared.trans.Trans.{Trans}
use Rattle.ta_clean.specs.declared.meeting.uses.Use.{Use}

-- how many arguments the transitions have
abbrev pub places_of : List Trans → ℕ
places_of trans = sum (map (λ t. length t.args) trans)

-- uses, and how many there is memory for
pub record UseRoom : Type 0 where
  pub uses : List Use
  pub room : ℕ

-- the transition has the symbol, and the state at the place
pub record IsUseIn (trans : Trans) (used : Use) : Type 0 where
  pub sym : trans.sym ≡ used.slot.sym
  pub state : slice_get trans.args used.slot.place ≡ Some used.slot.state

-- so has the transition at the use's position in the list
pub record IsUseOf (all : List Trans) (used : Use) : Type 0 where
  pub trans : Trans
  pub at : slice_get all used.position ≡ Some trans
  pub is : IsUseIn trans used

-- they are all uses in the list
abbrev pub AreUsesOf : List Trans → List Use → Type 0
AreUsesOf all uses = (used : Use) → Contains uses used ↔ IsUseOf all used

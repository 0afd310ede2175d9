-- Which states transitions lead to, as flags. These serve private contracts alone.
use Rattle.std.specs.Prelude.{◌≡◌, ◌≢◌, ◌↔◌, ◌⊎◌, ℕ, ◌<◌, Bool, true, false, List, All, Contains}
use Rattle.std.specs.List.{slice_index_or}
use Rattle.ta_core.specs.declared.trans.Trans.{Trans}

-- the flag of a state, false where there is none
abbrev pub flag : List Bool → ℕ → Bool
flag flags q = slice_index_or flags q false

-- all arguments are smaller than the target
abbrev pub IsRising : Trans → Type 0
IsRising t = All (λ p. p < t.to) t.args

-- a transition of the list leads to the state
pub record IsTarget (ts : List Trans) (q : ℕ) : Type 0 where
  pub trans : Trans
  pub has : Contains ts trans
  pub leads : trans.to ≡ q

-- the flags are those of the targets; no two transitions have one target, and each rises
pub record AreMarked (ts : List Trans) (flags : List Bool) : Type 0 where
  pub marks : (q : ℕ) → (flag flags q ≡ true) ↔ IsTarget ts q
  pub once : (s t : Trans) → Contains ts s → Contains ts t → s.to ≡ t.to → s ≡ t
  pub rise : (t : Trans) → Contains ts t → IsRising t

-- two transitions have one target
pub record HasTwo (ts : List Trans) : Type 0 where
  pub first : Trans
  pub second : Trans
  pub has_first : Contains ts first
  pub has_second : Contains ts second
  pub same : first.to ≡ second.to
  pub differ : first ≢ second

-- a transition doesn't rise
pub record HasFalling (ts : List Trans) : Type 0 where
  pub trans : Trans
  pub has : Contains ts trans
  pub falls : IsRising trans → ⊥

abbrev pub IsSpoilt : List Trans → Type 0
IsSpoilt ts = HasTwo ts ⊎ HasFalling ts

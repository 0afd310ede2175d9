-- Matches by assignment: each assignment once, with all states to which the pattern runs by it.
use Rattle.std.specs.Prelude.{◌≡◌, ◌⊎◌, ◌<◌, ℕ, List, [], ◌∷◌, ◌++◌, map, length, All, Contains}
use Rattle.std.specs.declared.cmp.Ordering.{Ordering}
use Rattle.std.specs.declared.cmp.Ordering.TheVariants.{Less}
use Rattle.std.specs.Ordering.{nat_cmp}
use Rattle.std.specs.Cmp.Lexicographic.{slice_cmp}
use Rattle.std.specs.List.Sorted.{IsStrictlySortedBy}
use Rattle.list_laws.specs.Listings.{IsListing}
use Rattle.state_match.specs.Visits.{GoneThrough}

-- an assignment and states
pub record Group : Type 0 where
  pub sigma : List ℕ
  pub states : List ℕ

abbrev pub group_of : List ℕ → List ℕ → Group
group_of σ states = record { sigma = σ; states = states }

-- the same states, and more states before those of the assignment
abbrev pub after : List ℕ → Group → Group
after before g = group_of (before ++ g.sigma) g.states

abbrev pub group_order : Group → Group → Ordering
group_order g h = slice_cmp nat_cmp g.sigma h.sigma

-- all the states of the assignment, of which there is one
pub record IsGroup (P : List ℕ → ℕ → Type 0) (g : Group) : Type 0 where
  pub states : IsListing nat_cmp (P g.sigma) g.states
  pub some : 0 < length g.states

-- the list has the assignment
pub record HasGroup (gs : List Group) (σ : List ℕ) : Type 0 where
  pub group : Group
  pub has : Contains gs group
  pub same : group.sigma ≡ σ

-- each assignment that has a state, in order, with all its states
pub record AreGroups (P : List ℕ → ℕ → Type 0) (gs : List Group) : Type 0 where
  pub ascend : IsStrictlySortedBy group_order gs
  pub each : (g : Group) → Contains gs g → IsGroup P g
  pub all : (σ : List ℕ) (q : ℕ) → P σ q → HasGroup gs σ

-- the first of them: each other assignment comes after all of these
pub record AreFirstGroups (P : List ℕ → ℕ → Type 0) (gs : List Group) : Type 0 where
  pub ascend : IsStrictlySortedBy group_order gs
  pub each : (g : Group) → Contains gs g → IsGroup P g
  pub first : (σ : List ℕ) (q : ℕ) → P σ q → HasGroup gs σ ⊎ All (λ g. slice_cmp nat_cmp g.sigma σ ≡ Less) gs

-- the visitor has taken all of them, each behind these states
pub record TookAll {V : Type 0} (took : V → Group → V → Type 0) (P : List ℕ → ℕ → Type 0) (before : List ℕ) (old new : V) : Type 0 where
  pub groups : List Group
  pub are : AreGroups P groups
  pub gone : GoneThrough took old (map (after before) groups) new

-- the visitor has taken the first of them
pub record TookFirst {V : Type 0} (took : V → Group → V → Type 0) (P : List ℕ → ℕ → Type 0) (before : List ℕ) (old new : V) : Type 0 where
  pub groups : List Group
  pub first : AreFirstGroups P groups
  pub gone : GoneThrough took old (map (after before) groups) new

-- the visitor has taken the first of them, and with the next one it was over
pub record TookUpTo {V : Type 0} (took ends : V → Group → V → Type 0) (P : List ℕ → ℕ → Type 0) (before : List ℕ) (old new : V) : Type 0 where
  pub groups : List Group
  pub last : Group
  pub middle : V
  pub first : AreFirstGroups P (groups ++ last ∷ [])
  pub gone : GoneThrough took old (map (after before) groups) middle
  pub over : ends middle (after before last) new

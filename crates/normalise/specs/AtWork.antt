-- At work on a pair. These serve private contracts alone.
use Rattle.std.specs.Prelude.{◌≡◌, ℕ, List, [], ◌∷◌, All}
use Rattle.std.specs.List.{Contains, AllByRecursion}
use Rattle.ranked_terms.specs.Terms.{joined}
use Rattle.ranked_terms.specs.declared.term.Config.{Config}
use Rattle.ranked_terms.specs.declared.term.Config.TheOpen.{Config-F, State, App}
use Rattle.ranked_terms.specs.declared.term.Config.TheFolds.{fold-Config}
use Rattle.trs_rules.specs.declared.entry.Entry.{Entry}
use Rattle.ta_core.specs.TreeAutomaton.{TreeAutomaton}
use Rattle.ta_core.specs.Acceptance.{image}
use Rattle.normalise.specs.Normalising.{Task, Puts, Goes, NeedsMore}

-- what is normalised, and up to which number of states
pub record Job : Type 0 where
  pub task : Task
  pub most : ℕ

abbrev pub task_from : List Entry → List ℕ → Config → ℕ → Task
task_from entries h whole q = record { entries = entries; places = h; whole = whole; state = q }

abbrev pub job_of : Task → ℕ → Job
job_of task most = record { task = task; most = most }

-- the states of a configuration, from left to right
abbrev pub states_in_step : Config-F (List ℕ) → List ℕ
states_in_step (State q) = q ∷ []
states_in_step (App f cs) = joined cs

abbrev pub states_in : Config → List ℕ
states_in = fold-Config (List ℕ) states_in_step

-- they are all there
abbrev pub HasStates : TreeAutomaton → Config → Type 0
HasStates A c = All (Contains A.states) (states_in c)

-- the states to which entries send nodes are there
abbrev pub HasTargets : TreeAutomaton → Task → Type 0
HasTargets A task = All (λ e. Contains A.states (image task.places e.target)) task.entries

-- the configuration, put without a limit, needs a fresh state while `next` is at the limit
pub record PutNeedsMore (task : Task) (most : ℕ) (A : TreeAutomaton) (c : Config) : Type 0 where
  pub state : ℕ
  pub grown : TreeAutomaton
  pub puts : Puts task A c state grown
  pub needs : NeedsMore most A grown

-- the same of one node
pub record NodeNeedsMore (task : Task) (most : ℕ) (A : TreeAutomaton) (f : ℕ) (ps : List ℕ) : Type 0 where
  pub state : ℕ
  pub grown : TreeAutomaton
  pub goes : Goes task A f ps state grown
  pub needs : NeedsMore most A grown

-- ---- what entries ask of an assignment

-- it has these states for these variables
abbrev pub Binds : List (ℕ × ℕ) → (ℕ → ℕ) → Type 0
Binds bs τ = AllByRecursion (λ b. τ b.0 ≡ b.1) bs

abbrev pub SomeBinds : List (ℕ × ℕ) → Type 0
SomeBinds bs = (τ : ℕ → ℕ) × Binds bs τ

-- what was asked before, and to make x besides, is what is asked now; some assignment meets it
pub record AlsoMakes (X : Type 0) (make : (ℕ → ℕ) → X) (x : X) (old new : List (ℕ × ℕ)) : Type 0 where
  pub some : SomeBinds new
  pub before : (τ : ℕ → ℕ) → Binds new τ → Binds old τ
  pub makes : (τ : ℕ → ℕ) → Binds new τ → make τ ≡ x
  pub all : (τ : ℕ → ℕ) → Binds old τ → make τ ≡ x → Binds new τ

-- no assignment that meets what was asked before makes x
abbrev pub NeverMakes : (X : Type 0) → ((ℕ → ℕ) → X) → X → List (ℕ × ℕ) → Type 0
NeverMakes X make x old = (τ : ℕ → ℕ) → Binds old τ → make τ ≡ x → ⊥

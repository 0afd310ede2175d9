-- Laws of runs, each stated for every automaton.
use Rattle.std.specs.Prelude.{◌⊎◌, ◌↔◌, ℕ, List, []}
use Rattle.std.specs.List.{Contains, AllZip}
use Rattle.std.specs.Ordering.{nat_cmp}
use Rattle.list_laws.specs.Listings.{IsListing}
use Rattle.ranked_terms.specs.Names.{Symbol}
use Rattle.ranked_terms.specs.declared.term.Term.{Term}
use Rattle.ranked_terms.specs.declared.term.Config.{Config, State, App}
use Rattle.ta_core.specs.TreeAutomaton.{TreeAutomaton, IsSound, trans_of}
use Rattle.ta_core.specs.Runs.{Runs, RunsPlain}
use Rattle.ta_core.specs.Languages.{Language}

-- the relation has what the three cases of a run make of it
pub record IsClosed (A : TreeAutomaton) (P : Config → ℕ → Type 0) : Type 0 where
  pub at : (q : ℕ) → Contains A.states q → P (State q) q
  pub app : (f q : ℕ) (cs : List Config) (qs : List ℕ) → AllZip P cs qs → Contains A.trans (trans_of f qs q) → P (App f cs) q
  pub step : (c : Config) (p q : ℕ) → P c p → Contains A.eps (p, q) → P c q

-- the states, transitions and epsilon transitions of the one are those of the other, and maybe more
pub record IsWithin (A B : TreeAutomaton) : Type 0 where
  pub states : (q : ℕ) → Contains A.states q → Contains B.states q
  pub trans : (f : ℕ) (qs : List ℕ) (q : ℕ) → Contains A.trans (trans_of f qs q) → Contains B.trans (trans_of f qs q)
  pub eps : (p q : ℕ) → Contains A.eps (p, q) → Contains B.eps (p, q)

-- runs are closed under their three cases
abbrev pub RunsAreClosed : Type 0
RunsAreClosed = (A : TreeAutomaton) → IsClosed A (Runs A)

-- a relation that is closed under the three cases has every run
abbrev pub HasEachRun : (Config → ℕ → Type 0) → Type 0
HasEachRun P = (A : TreeAutomaton) → IsClosed A P → (c : Config) (q : ℕ) → Runs A c q → P c q

-- a run without epsilon transitions is a run
abbrev pub PlainRunsAreRuns : Type 0
PlainRunsAreRuns = (A : TreeAutomaton) (c : Config) (q : ℕ) → RunsPlain A c q → Runs A c q

-- the runs without epsilon transitions are the runs of the automaton that has lost them all
abbrev pub PlainRunsUseNoEpsilon : Type 0
PlainRunsUseNoEpsilon = (A : TreeAutomaton) (c : Config) (q : ℕ) → RunsPlain A c q ↔ Runs (record A { eps = [] }) c q

-- an automaton that has more runs more
abbrev pub RunsAreMonotone : Type 0
RunsAreMonotone = (A B : TreeAutomaton) → IsWithin A B → (c : Config) (q : ℕ) → Runs A c q → Runs B c q

-- a run ends in a state of the automaton
abbrev pub RunsEndInStates : Type 0
RunsEndInStates = (A : TreeAutomaton) → IsSound A → (c : Config) (q : ℕ) → Runs A c q → Contains A.states q

-- the states to which a configuration runs are an ascending list
abbrev pub RunsAreListed : Type 0
RunsAreListed = (A : TreeAutomaton) (c : Config) → (states : List ℕ) × IsListing nat_cmp (Runs A c) states

abbrev pub PlainRunsAreListed : Type 0
PlainRunsAreListed = (A : TreeAutomaton) (c : Config) → (states : List ℕ) × IsListing nat_cmp (RunsPlain A c) states

-- so a configuration runs to a state or doesn't
abbrev pub RunsAreDecided : Type 0
RunsAreDecided = (A : TreeAutomaton) (c : Config) (q : ℕ) → Runs A c q ⊎ (Runs A c q → ⊥)

abbrev pub PlainRunsAreDecided : Type 0
PlainRunsAreDecided = (A : TreeAutomaton) (c : Config) (q : ℕ) → RunsPlain A c q ⊎ (RunsPlain A c q → ⊥)

-- and a ground term is in a language or isn't
abbrev pub LanguagesAreDecided : Type 0
LanguagesAreDecided = (signature : List Symbol) (A : TreeAutomaton) (t : Term) → Language signature A t ⊎ (Language signature A t → ⊥)

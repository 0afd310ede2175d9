-- The runs of an automaton (TATA, section 1.1, with epsilon transitions; Feuillade, Genet and Viet Triem Tong, JAR 2004).
use Rattle.std.specs.Prelude.{ℕ, List, [], ◌∷◌}
use Rattle.std.specs.List.{Contains}
use Rattle.ranked_terms.specs.declared.term.Config.{Config, State, App}
use Rattle.ta_core.specs.TreeAutomaton.{TreeAutomaton, trans_of}

mutual
  -- the configuration runs to the state: a state to itself, an application by a transition, and on by an epsilon transition
  pub data Runs (A : TreeAutomaton) : Config → ℕ → Type 0 where
    at : {q : ℕ} → Contains A.states q → Runs A (State q) q
    app : {f q : ℕ} {cs : List Config} {qs : List ℕ} → RunsAll A cs qs → Contains A.trans (trans_of f qs q) → Runs A (App f cs) q
    step : {c : Config} {p q : ℕ} → Runs A c p → Contains A.eps (p, q) → Runs A c q

  -- each configuration to the state at its place
  pub data RunsAll (A : TreeAutomaton) : List Config → List ℕ → Type 0 where
    none : RunsAll A [] []
    more : {c : Config} {q : ℕ} {cs : List Config} {qs : List ℕ} → Runs A c q → RunsAll A cs qs → RunsAll A (c ∷ cs) (q ∷ qs)

mutual
  -- the same without epsilon transitions
  pub data RunsPlain (A : TreeAutomaton) : Config → ℕ → Type 0 where
    at : {q : ℕ} → Contains A.states q → RunsPlain A (State q) q
    app : {f q : ℕ} {cs : List Config} {qs : List ℕ} → RunsAllPlain A cs qs → Contains A.trans (trans_of f qs q) → RunsPlain A (App f cs) q

  pub data RunsAllPlain (A : TreeAutomaton) : List Config → List ℕ → Type 0 where
    none : RunsAllPlain A [] []
    more : {c : Config} {q : ℕ} {cs : List Config} {qs : List ℕ} → RunsPlain A c q → RunsAllPlain A cs qs → RunsAllPlain A (c ∷ cs) (q ∷ qs)

-- by epsilon transitions alone, in any number of steps
pub data Reaches (A : TreeAutomaton) : ℕ → ℕ → Type 0 where
  here : {p : ℕ} → Reaches A p p
  on : {p q r : ℕ} → Reaches A p q → Contains A.eps (q, r) → Reaches A p r

-- the configuration runs to a final state
pub record RunsToFinal (A : TreeAutomaton) (c : Config) : Type 0 where
  pub state : ℕ
  pub runs : Runs A c state
  pub final : Contains A.finals state

-- When an automaton, with a map from the states of the initial one, shows that nothing forbidden is reachable: it contains the initial automaton, is
-- closed under the rules and misses the forbidden language (Feuillade, Genet and Viet Triem Tong, JAR 2004; the form of containment is this project's own).
use Rattle.std.specs.Prelude.{ℕ, ◌≤◌, List, map, length, slice_index, All, Contains}
use Rattle.ranked_terms.specs.Names.{Symbol}
use Rattle.ranked_terms.specs.declared.term.Term.{Term}
use Rattle.ranked_terms.specs.declared.term.Config.{State, App}
use Rattle.ta_core.specs.TreeAutomaton.{TreeAutomaton}
use Rattle.ta_core.specs.Runs.{Runs}
use Rattle.ta_core.specs.Languages.{Language}
use Rattle.ta_core.specs.Closure.{Closed}
use Rattle.ta_core.specs.declared.trans.Trans.{Trans}
use Rattle.ta_core.specs.declared.spec.Spec.{Spec}

-- the state that a state goes to; a map is the list of these states, in which the place is the state
abbrev pub image : List ℕ → ℕ → ℕ
image h q = slice_index h q

-- the state goes to a state
abbrev pub StateHolds : TreeAutomaton → List ℕ → ℕ → Type 0
StateHolds A h q = Contains A.states (image h q)

-- the transition, with its states mapped, is a run
abbrev pub TransHolds : TreeAutomaton → List ℕ → Trans → Type 0
TransHolds A h t = Runs A (App t.sym (map (λ p. State (image h p)) t.args)) (image h t.to)

-- so is the epsilon transition
abbrev pub EpsHolds : TreeAutomaton → List ℕ → ℕ × ℕ → Type 0
EpsHolds A h e = Runs A (State (image h e.0)) (image h e.1)

-- the final state goes to a final state
abbrev pub FinalHolds : TreeAutomaton → List ℕ → ℕ → Type 0
FinalHolds A h q = Contains A.finals (image h q)

-- the map has a place for each state of the one automaton, and maybe more places; and what each part of it has holds in the other one
pub record IsContained (A₀ A : TreeAutomaton) (h : List ℕ) : Type 0 where
  pub each_state : A₀.next ≤ length h
  pub states : All (StateHolds A h) A₀.states
  pub trans : All (TransHolds A h) A₀.trans
  pub eps : All (EpsHolds A h) A₀.eps
  pub finals : All (FinalHolds A h) A₀.finals

-- no ground term over the signature is in both languages
abbrev pub Misses : List Symbol → TreeAutomaton → TreeAutomaton → Type 0
Misses signature A B = (t : Term) → Language signature A t → Language signature B t → ⊥

-- the three together
pub record IsAccepted (spec : Spec) (A : TreeAutomaton) (h : List ℕ) : Type 0 where
  pub contained : IsContained spec.initial A h
  pub closed : Closed A spec.rules
  pub misses : Misses spec.signature A spec.forbidden

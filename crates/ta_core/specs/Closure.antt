-- When an automaton is closed under rules, and which pairs are open in it: left sides whose right sides don't follow (Feuillade, Genet and Viet Triem
-- Tong, JAR 2004, where an open pair is a critical pair that isn't joined; the order of the pairs is this project's own).
use Rattle.std.specs.Prelude.{◌≡◌, ℕ, zero, suc, ◌+◌, ◌==◌, List, [], ◌∷◌, ◌++◌, Some, map, length, slice_index, All, Contains}
use Rattle.std.specs.List.{slice_get, position_or_len, flat_map}
use Rattle.list_laws.specs.Listings.{IsFirst}
use Rattle.ranked_terms.specs.Terms.{assigned}
use Rattle.ranked_terms.specs.declared.term.Pattern.{Pattern}
use Rattle.ranked_terms.specs.declared.term.Config.{Config}
use Rattle.trs_rules.specs.Rules.{RewriteRule}
use Rattle.trs_rules.specs.declared.sigma.Pair.{Pair}
use Rattle.ta_core.specs.TreeAutomaton.{TreeAutomaton}
use Rattle.ta_core.specs.Runs.{Runs}

-- ---- closure

-- whatever states the variables stand for, the right side runs to each state to which the left side runs
abbrev pub IsClosedUnder : TreeAutomaton → RewriteRule → Type 0
IsClosedUnder A rule = (σ : ℕ → ℕ) → All (λ v. Contains A.states (σ v)) rule.vars → (q : ℕ) → Runs A (assigned σ rule.left) q → Runs A (assigned σ rule.right) q

abbrev pub Closed : TreeAutomaton → List RewriteRule → Type 0
Closed A R = All (IsClosedUnder A) R

-- ---- open pairs

-- the state of a variable by an assignment, which is the list of the states of the variables in their order
abbrev pub state_in : List ℕ → List ℕ → ℕ → ℕ
state_in vars states v = slice_index states (position_or_len (λ w. v == w) vars)

-- a side of a rule with the states of an assignment for its variables
abbrev pub assigned_by : RewriteRule → List ℕ → Pattern → Config
assigned_by rule states side = assigned (state_in rule.vars states) side

-- a rule of the list, an assignment of states to its variables, and a state
pub record IsTriple (A : TreeAutomaton) (R : List RewriteRule) (pair : Pair) : Type 0 where
  pub rule : RewriteRule
  pub is_rule : slice_get R pair.rule ≡ Some rule
  pub each_variable : length pair.sigma ≡ length rule.vars
  pub are_states : All (Contains A.states) pair.sigma
  pub is_state : Contains A.states pair.state

-- the left side runs to the state, and the right side doesn't
pub record IsOpen (A : TreeAutomaton) (R : List RewriteRule) (pair : Pair) : Type 0 where
  pub rule : RewriteRule
  pub is_rule : slice_get R pair.rule ≡ Some rule
  pub left : Runs A (assigned_by rule pair.sigma rule.left) pair.state
  pub right : Runs A (assigned_by rule pair.sigma rule.right) pair.state → ⊥

-- a triple that is open
pub record IsOpenTriple (A : TreeAutomaton) (R : List RewriteRule) (pair : Pair) : Type 0 where
  pub triple : IsTriple A R pair
  pub is_open : IsOpen A R pair

-- the right side runs to the state if the left side does
pub record IsSettled (A : TreeAutomaton) (R : List RewriteRule) (pair : Pair) : Type 0 where
  pub rule : RewriteRule
  pub is_rule : slice_get R pair.rule ≡ Some rule
  pub follows : Runs A (assigned_by rule pair.sigma rule.left) pair.state → Runs A (assigned_by rule pair.sigma rule.right) pair.state

-- all lists of so many states, in the order of a dictionary
abbrev pub assignments : List ℕ → ℕ → List (List ℕ)
assignments states zero = [] ∷ []
assignments states (suc n) = flat_map (λ q. map (λ rest. q ∷ rest) (assignments states n)) states

-- the pair of a rule's number, an assignment and a state
abbrev pub pair_of : ℕ → List ℕ → ℕ → Pair
pair_of i σ q = record { rule = i; sigma = σ; state = q }

-- the triples of one rule: by assignment, and then by state
abbrev pub triples_of_rule : TreeAutomaton → ℕ → RewriteRule → List Pair
triples_of_rule A i rule = flat_map (λ σ. map (λ q. pair_of i σ q) A.states) (assignments A.states (length rule.vars))

-- the triples of rules that are numbered from i on: by rule, by assignment, and then by state
abbrev pub triples_from : TreeAutomaton → ℕ → List RewriteRule → List Pair
triples_from A i [] = []
triples_from A i (rule ∷ R) = triples_of_rule A i rule ++ triples_from A (i + 1) R

-- the open ones of the triples, in their order; each other one is settled
pub data OpenAmong (A : TreeAutomaton) (R : List RewriteRule) : List Pair → List Pair → Type 0 where
  none : OpenAmong A R [] []
  open_one : {pair : Pair} {pairs opens : List Pair} → IsOpen A R pair → OpenAmong A R pairs opens → OpenAmong A R (pair ∷ pairs) (pair ∷ opens)
  settled_one : {pair : Pair} {pairs opens : List Pair} → IsSettled A R pair → OpenAmong A R pairs opens → OpenAmong A R (pair ∷ pairs) opens

-- the list of open pairs
abbrev pub AreOpenPairs : TreeAutomaton → List RewriteRule → List Pair → Type 0
AreOpenPairs A R pairs = OpenAmong A R (triples_from A 0 R) pairs

-- the first open one of the triples, in their order
abbrev pub IsFirstOpen : TreeAutomaton → List RewriteRule → Pair → Type 0
IsFirstOpen A R pair = IsFirst (IsOpen A R) (IsSettled A R) (triples_from A 0 R) pair

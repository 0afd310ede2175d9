-- The pairs of an assignment and a state at which one rule is tried, from some states on. These serve private contracts alone.
use Rattle.std.specs.Prelude.{ℕ, List, ◌∷◌, ◌++◌, map, Contains}
use Rattle.std.specs.List.{flat_map}
use Rattle.trs_rules.specs.Rules.{RewriteRule}
use Rattle.ta_core.specs.TreeAutomaton.{TreeAutomaton}
use Rattle.ta_core.specs.Runs.{Runs}
use Rattle.ta_core.specs.Closure.{assigned_by, assignments, state_in}
use Rattle.ranked_terms.specs.Terms.{assigned}
use Rattle.ranked_terms.specs.declared.term.Pattern.{Pattern}
use Rattle.list_laws.specs.Listings.{IsFirst}

-- the left side runs to the state, and the right side doesn't
pub record Opens (A : TreeAutomaton) (rule : RewriteRule) (at : List ℕ × ℕ) : Type 0 where
  pub left : Runs A (assigned_by rule at.0 rule.left) at.1
  pub right : Runs A (assigned_by rule at.0 rule.right) at.1 → ⊥

-- the right side runs to the state if the left side does
abbrev pub Settles : TreeAutomaton → RewriteRule → List ℕ × ℕ → Type 0
Settles A rule at = Runs A (assigned_by rule at.0 rule.left) at.1 → Runs A (assigned_by rule at.0 rule.right) at.1

-- one assignment with each state
abbrev pub with_states : TreeAutomaton → List ℕ → List (List ℕ × ℕ)
with_states A σ = map (λ q. (σ, q)) A.states

-- the assignments that go on from these states by so many more, each with each state
abbrev pub going_on : TreeAutomaton → List ℕ → ℕ → List (List ℕ × ℕ)
going_on A σ more = flat_map (λ rest. with_states A (σ ++ rest)) (assignments A.states more)

-- the first open one of them
abbrev pub OpensFirst : TreeAutomaton → RewriteRule → List (List ℕ × ℕ) → List ℕ × ℕ → Type 0
OpensFirst A rule pairs at = IsFirst (Opens A rule) (Settles A rule) pairs at

-- a member of the one list and not of the other
pub record IsApart (xs ys : List ℕ) (q : ℕ) : Type 0 where
  pub one : Contains xs q
  pub other : Contains ys q → ⊥

-- a member of the other list if it is one of this
abbrev pub IsShared : List ℕ → List ℕ → ℕ → Type 0
IsShared xs ys q = Contains xs q → Contains ys q

-- ---- the states that an assignment may go on with

-- each state to which the pattern runs with these states and whichever for the other variables
abbrev pub Covers : TreeAutomaton → List ℕ → List ℕ → Pattern → List ℕ → Type 0
Covers A vars states pattern set = (rest : List ℕ) (q : ℕ) → Runs A (assigned (state_in vars (states ++ rest)) pattern) q → Contains set q

-- each state for the next variable with which the pattern runs to one of the needed states, with whichever for the variables behind
abbrev pub Narrows : TreeAutomaton → List ℕ → List ℕ → Pattern → List ℕ → List ℕ → Type 0
Narrows A vars states pattern needed set = (p : ℕ) → Contains A.states p → (rest : List ℕ) (q : ℕ) → Contains needed q → Runs A (assigned (state_in vars (states ++ p ∷ rest)) pattern) q → Contains set p

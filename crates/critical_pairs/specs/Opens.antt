-- The open pairs of one rule, and those of an assignment. These serve private contracts alone.
use Rattle.std.specs.Prelude.{◌≡◌, ◌<◌, ◌≤◌, ℕ, false, List, ◌++◌, length, Contains}
use Rattle.std.specs.List.Sorted.{IsStrictlySortedBy}
use Rattle.list_laws.specs.Listings.{IsListing}
use Rattle.trs_rules.specs.Rules.{RewriteRule}
use Rattle.trs_rules.specs.declared.sigma.Pair.{Pair}
use Rattle.ta_core.specs.TreeAutomaton.{TreeAutomaton}
use Rattle.ta_core.specs.Runs.{Runs}
use Rattle.ta_core.specs.Closure.{assigned_by}
use Rattle.ta_core.specs.ClosureLaws.{pair_order}
use Rattle.state_match.specs.Matches.{MatchesAt}
use Rattle.state_match.specs.Groups.{Group}

abbrev pub pair_of : ℕ → List ℕ → ℕ → Pair
pair_of i σ q = record { rule = i; sigma = σ; state = q }

-- a rule with its number, and an automaton
pub record Setting : Type 0 where
  pub automaton : TreeAutomaton
  pub number : ℕ
  pub rule : RewriteRule

-- ---- one rule

-- the right side doesn't run to the state
abbrev pub IsMissed : Setting → List ℕ → ℕ → Type 0
IsMissed s σ q = Runs s.automaton (assigned_by s.rule σ s.rule.right) q → ⊥

-- an open pair of the rule
pub record IsOpenOf (s : Setting) (pair : Pair) : Type 0 where
  pub number : pair.rule ≡ s.number
  pub left : MatchesAt false s.automaton s.rule.vars s.rule.left pair.sigma pair.state
  pub right : IsMissed s pair.sigma pair.state

-- all open pairs of the rule come to those that are there, and there are at most as many as the limit
pub record AddsAll (s : Setting) (limit : ℕ) (old all : List Pair) : Type 0 where
  pub opens : List Pair
  pub are : IsListing pair_order (IsOpenOf s) opens
  pub found : all ≡ old ++ opens
  pub few : length old ≤ limit → length all ≤ limit

-- with open pairs of the rule there are more than the limit
pub record ExceedsWith (s : Setting) (limit : ℕ) (old : List Pair) : Type 0 where
  pub opens : List Pair
  pub ascend : IsStrictlySortedBy pair_order opens
  pub each : (pair : Pair) → Contains opens pair → IsOpenOf s pair
  pub more : limit < length (old ++ opens)

-- ---- one assignment

-- what is looked at, and the open pairs that were found
pub record Opening : Type 0 where
  pub setting : Setting
  pub limit : ℕ
  pub pairs : List Pair

-- an open pair of the assignment: one of its states, to which the right side doesn't run
pub record IsOpenIn (s : Setting) (g : Group) (pair : Pair) : Type 0 where
  pub number : pair.rule ≡ s.number
  pub sigma : pair.sigma ≡ g.sigma
  pub state : Contains g.states pair.state
  pub right : IsMissed s g.sigma pair.state

-- the open pairs of the assignment come to those that are there
pub record Adds (u : Opening) (g : Group) (v : Opening) : Type 0 where
  pub opens : List Pair
  pub are : IsListing pair_order (IsOpenIn u.setting g) opens
  pub found : v ≡ record u { pairs = u.pairs ++ opens }
  pub few : length u.pairs ≤ u.limit → length v.pairs ≤ u.limit

-- with the open pairs of the assignment there are more than the limit
pub record Exceeds (u : Opening) (g : Group) : Type 0 where
  pub opens : List Pair
  pub are : IsListing pair_order (IsOpenIn u.setting g) opens
  pub more : u.limit < length (u.pairs ++ opens)

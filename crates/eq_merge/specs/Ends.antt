-- Where the runs of an equation's sides end. This serves private contracts alone.
use Rattle.std.specs.Prelude.{◌≡◌, ◌↔◌, ◌⊎◌, ℕ, ◌==◌, true, List, [], ◌++◌, map, slice_index, if◌then◌else◌}
use Rattle.std.specs.List.{Contains, position_or_len}
use Rattle.ranked_terms.specs.Terms.{variables_of}
use Rattle.ranked_terms.specs.declared.term.Pattern.{Pattern}
use Rattle.trs_rules.specs.Rules.{RewriteEquation}
use Rattle.ta_core.specs.TreeAutomaton.{TreeAutomaton, trans_of}
use Rattle.ta_core.specs.Acceptance.{image}
use Rattle.ta_core.specs.Closure.{state_in}
use Rattle.ta_core.specs.Growth.{IsLeastTarget, HasNoTarget}
use Rattle.ta_core.specs.declared.trans.Trans.{Trans}
use Rattle.state_match.specs.Groups.{Group}
use Rattle.state_match.specs.Matches.{MatchesAt}
use Rattle.eq_merge.specs.Merging.{Equates}
use Rattle.eq_merge.specs.declared.ends.Collecting.{Collecting}

-- the variables that stand in both sides
abbrev pub AreShared : RewriteEquation → List ℕ → Type 0
AreShared e shared = (v : ℕ) → Contains shared v ↔ (Contains (variables_of e.left) v × Contains (variables_of e.right) v)

-- the same automaton without its epsilon transitions
abbrev pub without_eps : TreeAutomaton → TreeAutomaton
without_eps A = record A { eps = [] }

-- the pattern runs to the state without epsilon transitions, by states for its variables, of which the shared ones have these
pub record EndsAt (A : TreeAutomaton) (p : Pattern) (shared : List ℕ) (states : List ℕ) (q : ℕ) : Type 0 where
  pub σ : List ℕ
  pub is_match : MatchesAt true A (variables_of p) p σ q
  pub same : states ≡ map (state_in (variables_of p) σ) shared

-- an end is kept as a transition: 0 for the left side or 1 for the right side, the states of the shared variables, and the state
abbrev pub IsEnd : TreeAutomaton → RewriteEquation → List ℕ → Trans → Type 0
IsEnd A e shared t = ((t.sym ≡ 0) × EndsAt A e.left shared t.args t.to) ⊎ ((t.sym ≡ 1) × EndsAt A e.right shared t.args t.to)

-- the ends of both sides, as transitions of an automaton with the same states
pub record AreEnds (A : TreeAutomaton) (e : RewriteEquation) (B : TreeAutomaton) : Type 0 where
  pub shared : List ℕ
  pub are_shared : AreShared e shared
  pub next : B.next ≡ A.next
  pub exact : (t : Trans) → Contains B.trans t ↔ IsEnd A e shared t

-- the other side
abbrev pub across : ℕ → ℕ
across side = if side == 0 then 1 else 0

-- the equation equates the two, in one direction or the other
abbrev pub AreEquated : TreeAutomaton → RewriteEquation → ℕ → ℕ → Type 0
AreEquated A e p q = Equates A e p q ⊎ Equates A e q p

-- by some equation of the list
abbrev pub AreEquatedBy : TreeAutomaton → List RewriteEquation → ℕ → ℕ → Type 0
AreEquatedBy A E p q = (e : RewriteEquation) × Contains E e × AreEquated A e p q

-- the end is in one class with the least one across from it, if there is one
abbrev pub IsLed : TreeAutomaton → List ℕ → Trans → Type 0
IsLed B h t = HasNoTarget B (across t.sym) t.args ⊎ ((q : ℕ) × IsLeastTarget B (across t.sym) t.args q × (image h t.to ≡ image h q))

-- ---- how they are collected

-- the states at these places of an assignment
abbrev pub states_at : List ℕ → List ℕ → List ℕ
states_at places σ = map (λ place. slice_index σ place) places

abbrev pub places_of : List ℕ → List ℕ → List ℕ
places_of vars shared = map (λ v. position_or_len (λ w. v == w) vars) shared

-- an end as a transition
abbrev pub end_of : ℕ → List ℕ → ℕ → Trans
end_of side states q = trans_of side states q

-- the ends of the group come to those that are there
pub record AddsEnds (u : Collecting) (g : Group) (v : Collecting) : Type 0 where
  pub side : v.side ≡ u.side
  pub places : v.places ≡ u.places
  pub ends : v.ends ≡ u.ends ++ map (end_of u.side (states_at u.places g.sigma)) g.states

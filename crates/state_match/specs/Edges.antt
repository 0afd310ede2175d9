-- What is wanted of the first arguments of a pattern, down its left edge. This serves private contracts alone.
use Rattle.std.specs.Prelude.{◌≡◌, ℕ, List, ◌∷◌, Some, slice_get}
use Rattle.ranked_terms.specs.declared.term.Pattern.{Pattern, App}
use Rattle.ta_core.specs.TreeAutomaton.{TreeAutomaton}
use Rattle.state_match.specs.Rows.{IsFirst}
use Rattle.state_match.specs.declared.edge.Edge.{Edge}
use Rattle.state_match.specs.declared.edge.Edge.TheViews.{out-Edge}

-- what is wanted of the first argument, and so on below, where these states are wanted of the pattern
pub data IsEdge (A : TreeAutomaton) : List ℕ → Pattern → Edge → Type 0 where
  is : {wanted : List ℕ} {p : Pattern} {e : Edge} → IsFirst A wanted p (out-Edge e).first →
      ((f : ℕ) (arg : Pattern) (args : List Pattern) (deeper : Edge) → p ≡ App f (arg ∷ args) → slice_get (out-Edge e).deeper.items 0 ≡ Some deeper → IsEdge A (out-Edge e).first arg deeper) →
      IsEdge A wanted p e

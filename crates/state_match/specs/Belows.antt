-- What a pattern can run to at all, whatever its variables stand for. This serves private contracts alone.
use Rattle.std.specs.Prelude.{◌≡◌, ℕ, List, length, Some, slice_get}
use Rattle.std.specs.List.{AllZip, Contains}
use Rattle.ranked_terms.specs.Terms.{assigned}
use Rattle.ranked_terms.specs.declared.term.Pattern.{Pattern, App}
use Rattle.ta_core.specs.TreeAutomaton.{TreeAutomaton}
use Rattle.ta_core.specs.Runs.{Runs}
use Rattle.state_match.specs.declared.below.Below.{Below}
use Rattle.state_match.specs.declared.below.Below.TheViews.{out-Below}

-- it runs to members alone
abbrev pub RunsInto : TreeAutomaton → Pattern → List ℕ → Type 0
RunsInto A p set = (σ : ℕ → ℕ) (q : ℕ) → Runs A (assigned σ p) q → Contains set q

-- so do the arguments of a pattern, each to members of its set, and theirs
pub data IsBelow (A : TreeAutomaton) : Pattern → Below → Type 0 where
  is : {p : Pattern} {b : Below} →
      ((f : ℕ) (args : List Pattern) → p ≡ App f args → AllZip (RunsInto A) args (out-Below b).sets.items) →
      ((f : ℕ) (args : List Pattern) → p ≡ App f args → length (out-Below b).args.items ≡ length args) →
      ((f : ℕ) (args : List Pattern) → p ≡ App f args → (i : ℕ) (arg : Pattern) (deeper : Below) → slice_get args i ≡ Some arg → slice_get (out-Below b).args.items i ≡ Some deeper → IsBelow A arg deeper) →
      IsBelow A p b

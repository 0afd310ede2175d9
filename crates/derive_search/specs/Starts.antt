-- The terms of bounded height of an automaton. This project's own.
use Rattle.std.specs.Prelude.{◌↔◌, ◌⊎◌, ℕ, ◌<◌, ◌≤◌, List, Contains}
use Rattle.std.specs.List.Sorted.{IsStrictlySortedBy}
use Rattle.std.specs.declared.cmp.Ordering.{Ordering}
use Rattle.std.specs.Ordering.{nat_cmp, ordering_then}
use Rattle.std.specs.Cmp.Lexicographic.{slice_cmp}
use Rattle.ranked_terms.specs.Names.{Symbol}
use Rattle.ranked_terms.specs.Terms.{config_of, height_of, size_of}
use Rattle.ranked_terms.specs.declared.term.Term.{Term}
use Rattle.ranked_terms.specs.Texts.{term_text}
use Rattle.ta_core.specs.TreeAutomaton.{TreeAutomaton}
use Rattle.ta_core.specs.Runs.{Runs}
use Rattle.list_laws.specs.Listings.{HasMoreThan}

-- a state, and a term of at most this height that runs to it
pub record IsLowRun (A : TreeAutomaton) (height : ℕ) (pair : ℕ × Term) : Type 0 where
  pub low : height_of pair.1 ≤ height
  pub runs : Runs A (config_of pair.1) pair.0

-- by state, and then by printed bytes
abbrev pub text_order : List Symbol → ℕ × Term → ℕ × Term → Ordering
text_order signature x y = ordering_then (nat_cmp x.0 y.0) (slice_cmp nat_cmp (term_text signature x.1) (term_text signature y.1))

-- the list has all these pairs, each once, by state and then by printed bytes
pub record AreLowRuns (signature : List Symbol) (A : TreeAutomaton) (height : ℕ) (pairs : List (ℕ × Term)) : Type 0 where
  pub members : (pair : ℕ × Term) → Contains pairs pair ↔ IsLowRun A height pair
  pub sorted : IsStrictlySortedBy (text_order signature) pairs

-- a term of the property is larger than any that is looked at: it has more than 1,024 symbols
pub record HasLarge {T : Type 0} (term_of : T → Term) (P : T → Type 0) : Type 0 where
  pub member : T
  pub has : P member
  pub large : 1024 < size_of (term_of member)

-- there are more pairs than the limit, or one of their terms is large
abbrev pub AreTooMany : TreeAutomaton → ℕ → ℕ → Type 0
AreTooMany A height limit = HasMoreThan limit (IsLowRun A height) ⊎ HasLarge (λ pair. pair.1) (IsLowRun A height)

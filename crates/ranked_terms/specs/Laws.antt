-- Laws of terms, patterns and their variables (TATA, Preliminaries), which the calls of src/laws.rt carry.
use Rattle.std.specs.Prelude.{◌≡◌, ◌↔◌, ℕ, ◌+◌, ◌≤◌, List, [], ◌∷◌, ◌++◌, IsTrue, sum, map, nat_eq, All, Contains, filter, not, ◌==◌}
use Rattle.std.specs.List.{IsDistinct}
use Rattle.ranked_terms.specs.Names.{Symbol}
use Rattle.ranked_terms.specs.Terms.{node, size_of, height_of, instance_of, assigned, is_over, pattern_is_over, config_of, occurrences, firsts, variables_of}
use Rattle.ranked_terms.specs.declared.term.Term.{Term}
use Rattle.ranked_terms.specs.declared.term.Pattern.{Pattern}
use Rattle.ranked_terms.specs.contracts.term.TermPartialEq.TheImpl.{ghosts}

-- the size of a term is one more than the sum of its arguments' sizes
abbrev pub SizesAddUp : Type 0
SizesAddUp = (f : ℕ) (ts : List Term) → size_of (node f ts) ≡ sum (map size_of ts) + 1

-- the height of a term is at most its size
abbrev pub HeightsWithinSizes : Type 0
HeightsWithinSizes = (t : Term) → height_of t ≤ size_of t

-- a term over a signature is also over the signature with one symbol more
abbrev pub TermsStay : Type 0
TermsStay = (s : List Symbol) (symbol : Symbol) (t : Term) → IsTrue (is_over s t) → IsTrue (is_over (s ++ symbol ∷ []) t)

-- no two ground terms are one configuration
abbrev pub ConfigsDiffer : Type 0
ConfigsDiffer = (t u : Term) → config_of t ≡ config_of u → t ≡ u

-- an instance depends only on the variables that occur in the pattern
abbrev pub InstancesAgree : Type 0
InstancesAgree = (θ η : ℕ → Term) (p : Pattern) → All (λ v. θ v ≡ η v) (occurrences p) → instance_of θ p ≡ instance_of η p

-- and so does a configuration that an assignment makes of it
abbrev pub AssignedAgree : Type 0
AssignedAgree = (σ τ : ℕ → ℕ) (p : Pattern) → All (λ v. σ v ≡ τ v) (occurrences p) → assigned σ p ≡ assigned τ p

-- an instance by terms over a signature, of a pattern over it, is over it
abbrev pub InstancesAreOver : Type 0
InstancesAreOver = (s : List Symbol) (θ : ℕ → Term) (p : Pattern) → IsTrue (pattern_is_over s p) → All (λ v. IsTrue (is_over s (θ v))) (occurrences p) → IsTrue (is_over s (instance_of θ p))

-- the variables of a pattern are those that occur in it, each once
abbrev pub VariablesOnce : Type 0
VariablesOnce = (p : Pattern) → IsDistinct nat_eq (variables_of p) × ((v : ℕ) → Contains (variables_of p) v ↔ Contains (occurrences p) v)

-- and they stand in order of first occurrence: the first, and then the others of the rest
abbrev pub FirstsInOrder : Type 0
FirstsInOrder = (v : ℕ) (vs : List ℕ) → firsts (v ∷ vs) ≡ v ∷ filter (λ w. not (v == w)) (firsts vs)

-- what `==` of two terms answers (`ghosts.eq`) is whether they are equal
abbrev pub EqualTermsAreSame : Type 0
EqualTermsAreSame = (t u : Term) → IsTrue (ghosts.eq t u) ↔ (t ≡ u)

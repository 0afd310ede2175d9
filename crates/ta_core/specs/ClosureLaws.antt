-- Laws of closure under left-linear rules (Feuillade, Genet and Viet Triem Tong, JAR 2004).
use Rattle.std.specs.Prelude.{◌≡◌, ◌↔◌, ◌⊎◌, ℕ, ◌<◌, List, [], ◌∷◌, ◌++◌, All, Contains, length}
use Rattle.std.specs.List.Sorted.{IsStrictlySortedBy}
use Rattle.std.specs.declared.cmp.Ordering.{Ordering}
use Rattle.std.specs.Ordering.{nat_cmp, ordering_then}
use Rattle.std.specs.Cmp.Lexicographic.{slice_cmp}
use Rattle.list_laws.specs.Listings.{IsListing, IsFront, HasMoreThan}
use Rattle.ranked_terms.specs.Terms.{instance_of, assigned, config_of, occurrences}
use Rattle.ranked_terms.specs.declared.term.Term.{Term}
use Rattle.ranked_terms.specs.declared.term.Pattern.{Pattern}
use Rattle.trs_rules.specs.Rules.{RewriteRule, IsRule, IsLinear}
use Rattle.trs_rules.specs.Steps.{Leads}
use Rattle.trs_rules.specs.declared.sigma.Pair.{Pair}
use Rattle.ta_core.specs.TreeAutomaton.{TreeAutomaton, IsSound}
use Rattle.ta_core.specs.Runs.{Runs}
use Rattle.ta_core.specs.Languages.{Accepts}
use Rattle.ta_core.specs.Closure.{IsClosedUnder, Closed, IsTriple, IsOpen, IsSettled, IsOpenTriple, AreOpenPairs, IsFirstOpen, assigned_by, triples_from}

-- states for the variables of a pattern, to which their terms run, and with which the pattern runs on
pub record Factors (A : TreeAutomaton) (θ : ℕ → Term) (p : Pattern) (q : ℕ) : Type 0 where
  pub σ : ℕ → ℕ
  pub terms : (v : ℕ) → Contains (occurrences p) v → Runs A (config_of (θ v)) (σ v)
  pub pattern : Runs A (assigned σ p) q

-- a run of an instance of a linear pattern goes by way of states for its variables
abbrev pub InstancesFactor : Type 0
InstancesFactor = (A : TreeAutomaton) → IsSound A → (θ : ℕ → Term) (p : Pattern) (q : ℕ) → IsLinear p → Runs A (config_of (instance_of θ p)) q → Factors A θ p q

-- and for each pattern, states to which the terms run and with which the pattern runs on make a run of the instance
abbrev pub InstancesCompose : Type 0
InstancesCompose = (A : TreeAutomaton) (θ : ℕ → Term) (p : Pattern) (q : ℕ) → Factors A θ p q → Runs A (config_of (instance_of θ p)) q

-- what runs to a state of a closed automaton still does after any number of steps
abbrev pub ClosedKeepsRuns : Type 0
ClosedKeepsRuns = (A : TreeAutomaton) (R : List RewriteRule) → IsSound A → All IsRule R → Closed A R → (s t : Term) (q : ℕ) → Leads R s t → Runs A (config_of s) q → Runs A (config_of t) q

-- a closed automaton accepts whatever a term that it accepts rewrites to, in any number of steps
abbrev pub ClosedAcceptsReached : Type 0
ClosedAcceptsReached = (A : TreeAutomaton) (R : List RewriteRule) → IsSound A → All IsRule R → Closed A R → (s t : Term) → Accepts A s → Leads R s t → Accepts A t

-- closed under a rule at one assignment, which is a list of states
abbrev pub IsClosedAt : TreeAutomaton → RewriteRule → List ℕ → Type 0
IsClosedAt A rule states = (q : ℕ) → Runs A (assigned_by rule states rule.left) q → Runs A (assigned_by rule states rule.right) q

abbrev pub ClosedByLists : Type 0
ClosedByLists = (A : TreeAutomaton) (rule : RewriteRule) → IsRule rule → IsClosedUnder A rule ↔ ((states : List ℕ) → length states ≡ length rule.vars → All (Contains A.states) states → IsClosedAt A rule states)

-- closed exactly where the list of open pairs is empty
abbrev pub ClosedHasNoOpenPair : Type 0
ClosedHasNoOpenPair = (A : TreeAutomaton) (R : List RewriteRule) → IsSound A → All IsRule R → Closed A R ↔ AreOpenPairs A R []

-- there is at most one list of open pairs
abbrev pub OpenPairsAreOne : Type 0
OpenPairsAreOne = (A : TreeAutomaton) (R : List RewriteRule) (xs ys : List Pair) → AreOpenPairs A R xs → AreOpenPairs A R ys → xs ≡ ys

-- the triples are all triples
abbrev pub TriplesAreAll : Type 0
TriplesAreAll = (A : TreeAutomaton) (R : List RewriteRule) (pair : Pair) → Contains (triples_from A 0 R) pair ↔ IsTriple A R pair

-- pairs by rule, then by assignment in the order of a dictionary, and then by state
abbrev pub pair_order : Pair → Pair → Ordering
pair_order x y = ordering_then (nat_cmp x.rule y.rule) (ordering_then (slice_cmp nat_cmp x.sigma y.sigma) (nat_cmp x.state y.state))

-- where the states ascend, so do the triples
abbrev pub TriplesAscend : Type 0
TriplesAscend = (A : TreeAutomaton) (R : List RewriteRule) → IsStrictlySortedBy nat_cmp A.states → IsStrictlySortedBy pair_order (triples_from A 0 R)

-- ---- the list of open pairs

-- each triple is open or settled
abbrev pub TriplesAreDecided : Type 0
TriplesAreDecided = (A : TreeAutomaton) (R : List RewriteRule) (pair : Pair) → IsTriple A R pair → IsOpen A R pair ⊎ IsSettled A R pair

-- there is a list of open pairs
abbrev pub OpenPairsAreListed : Type 0
OpenPairsAreListed = (A : TreeAutomaton) (R : List RewriteRule) → (pairs : List Pair) × AreOpenPairs A R pairs

-- it has exactly the open triples
abbrev pub OpenPairsAreOpenTriples : Type 0
OpenPairsAreOpenTriples = (A : TreeAutomaton) (R : List RewriteRule) (pairs : List Pair) → AreOpenPairs A R pairs → (pair : Pair) → Contains pairs pair ↔ IsOpenTriple A R pair

-- where the states ascend, so does it; and the open triples in ascending order are it
abbrev pub OpenPairsAreListing : Type 0
OpenPairsAreListing = (A : TreeAutomaton) (R : List RewriteRule) (pairs : List Pair) → IsStrictlySortedBy nat_cmp A.states → AreOpenPairs A R pairs ↔ IsListing pair_order (IsOpenTriple A R) pairs

-- the first open triple is the head of the list of open pairs, and the head is the first open triple
abbrev pub FirstOpenIsHead : Type 0
FirstOpenIsHead = (A : TreeAutomaton) (R : List RewriteRule) (pair : Pair) (pairs : List Pair) → AreOpenPairs A R pairs → IsFirstOpen A R pair ↔ ((rest : List Pair) × (pairs ≡ pair ∷ rest))

-- closed, or with a first open triple
abbrev pub ClosedOrFirstOpen : Type 0
ClosedOrFirstOpen = (A : TreeAutomaton) (R : List RewriteRule) → IsSound A → All IsRule R → Closed A R ⊎ ((pair : Pair) × IsFirstOpen A R pair)

-- what comes first of the open triples begins the list
abbrev pub FrontsBeginOpenPairs : Type 0
FrontsBeginOpenPairs = (A : TreeAutomaton) (R : List RewriteRule) (xs pairs : List Pair) → IsStrictlySortedBy nat_cmp A.states → IsFront pair_order (IsOpenTriple A R) xs → AreOpenPairs A R pairs → (rest : List Pair) × (pairs ≡ xs ++ rest)

-- where more triples than a number are open, the list is longer than that
abbrev pub MoreOpenAreLonger : Type 0
MoreOpenAreLonger = (A : TreeAutomaton) (R : List RewriteRule) (n : ℕ) (pairs : List Pair) → HasMoreThan n (IsOpenTriple A R) → AreOpenPairs A R pairs → n < length pairs

-- The matches of a pattern in an automaton (Feuillade, Genet and Viet Triem Tong, JAR 2004; plain ones as in Genet and Rusu, JSC 2010).
use Rattle.std.specs.Prelude.{◌≡◌, ℕ, Bool, true, false, List, length, All, Contains}
use Rattle.std.specs.declared.cmp.Ordering.{Ordering}
use Rattle.std.specs.Ordering.{nat_cmp, ordering_then}
use Rattle.std.specs.Cmp.Lexicographic.{slice_cmp}
use Rattle.ranked_terms.specs.Terms.{assigned, variables_of}
use Rattle.ranked_terms.specs.declared.term.Pattern.{Pattern}
use Rattle.ranked_terms.specs.declared.term.Config.{Config}
use Rattle.ta_core.specs.TreeAutomaton.{TreeAutomaton}
use Rattle.ta_core.specs.Runs.{Runs, RunsPlain}
use Rattle.ta_core.specs.Closure.{state_in}
use Rattle.list_laws.specs.Listings.{IsListing, IsFront}
use Rattle.state_match.specs.declared.lists.Match.{Match}

-- plain runs or all runs
abbrev pub RunsBy : Bool → TreeAutomaton → Config → ℕ → Type 0
RunsBy true A c q = RunsPlain A c q
RunsBy false A c q = Runs A c q

-- states for the variables, in their order, with which the pattern runs to the state
pub record MatchesAt (plain : Bool) (A : TreeAutomaton) (vars : List ℕ) (p : Pattern) (σ : List ℕ) (q : ℕ) : Type 0 where
  pub each_variable : length σ ≡ length vars
  pub are_states : All (Contains A.states) σ
  pub runs : RunsBy plain A (assigned (state_in vars σ) p) q

-- the variables of a pattern stand in the order in which they first occur
abbrev pub IsMatch : Bool → TreeAutomaton → Pattern → Match → Type 0
IsMatch plain A p m = MatchesAt plain A (variables_of p) p m.sigma m.state

-- by assignment as a list, and then by state
abbrev pub match_order : Match → Match → Ordering
match_order m n = ordering_then (slice_cmp nat_cmp m.sigma n.sigma) (nat_cmp m.state n.state)

-- all matches in order, each once
abbrev pub AreMatches : Bool → TreeAutomaton → Pattern → List Match → Type 0
AreMatches plain A p ms = IsListing match_order (IsMatch plain A p) ms

-- the first of them
abbrev pub AreFirstMatches : Bool → TreeAutomaton → Pattern → List Match → Type 0
AreFirstMatches plain A p ms = IsFront match_order (IsMatch plain A p) ms

-- Laws of quotients and merging (Genet and Rusu, JSC 2010).
use Rattle.std.specs.Prelude.{◌≡◌, ◌≢◌, ◌⊎◌, ℕ, ◌<◌, List}
use Rattle.std.specs.List.{All, Contains}
use Rattle.std.specs.List.Sorted.{IsStrictlySortedBy}
use Rattle.std.specs.Ordering.{nat_cmp}
use Rattle.ranked_terms.specs.Terms.{assigned}
use Rattle.ranked_terms.specs.declared.term.Pattern.{Pattern}
use Rattle.trs_rules.specs.Rules.{RewriteEquation, IsEquation}
use Rattle.ta_core.specs.TreeAutomaton.{TreeAutomaton, IsSound, trans_cmp, pair_cmp}
use Rattle.ta_core.specs.Runs.{RunsPlain}
use Rattle.ta_core.specs.Acceptance.{image}
use Rattle.eq_merge.specs.Quotients.{AreLeasts, apart, quotient, joining, followed}
use Rattle.eq_merge.specs.Merging.{Forces, ForcesNothing, AreForcedPairs, Merged, IsLeastMerge}

-- the lists of an automaton ascend without doubles
pub record IsInOrder (A : TreeAutomaton) : Type 0 where
  pub states : IsStrictlySortedBy nat_cmp A.states
  pub finals : IsStrictlySortedBy nat_cmp A.finals
  pub trans : IsStrictlySortedBy trans_cmp A.trans
  pub eps : IsStrictlySortedBy pair_cmp A.eps

-- ---- quotients

-- a run without epsilon transitions stays one in each quotient, with each state replaced by the least of its class
abbrev pub PlainRunsSurvive : Type 0
PlainRunsSurvive = (A : TreeAutomaton) (h : List ℕ) → AreLeasts A h → (σ : ℕ → ℕ) (p : Pattern) (q : ℕ) → RunsPlain A (assigned σ p) q → RunsPlain (quotient A h) (assigned (λ v. image h (σ v)) p) (image h q)

-- so a forced pair is one state in a quotient, or forced there
abbrev pub ForcedPairsStay : Type 0
ForcedPairsStay = (A : TreeAutomaton) (E : List RewriteEquation) (h : List ℕ) → AreLeasts A h → (p q : ℕ) → Forces A E p q → (image h p ≡ image h q) ⊎ Forces (quotient A h) E (image h p) (image h q)

-- first the one and then the other is one quotient
abbrev pub QuotientsCompose : Type 0
QuotientsCompose = (A : TreeAutomaton) (f g : List ℕ) → IsSound A → AreLeasts A f → AreLeasts (quotient A f) g → AreLeasts A (followed f g) × (quotient (quotient A f) g ≡ quotient A (followed f g))

-- a quotient of a sound automaton with ascending lists is one
abbrev pub QuotientsAreSound : Type 0
QuotientsAreSound = (A : TreeAutomaton) (h : List ℕ) → IsSound A → IsInOrder A → AreLeasts A h → IsSound (quotient A h) × IsInOrder (quotient A h)

-- an equivalence of the joined automaton that gives g when it follows the joining
pub record Factored (A : TreeAutomaton) (p q : ℕ) (g : List ℕ) : Type 0 where
  pub rest : List ℕ
  pub leasts : AreLeasts (quotient A (joining A.next p q)) rest
  pub both : followed (joining A.next p q) rest ≡ g

-- an equivalence that puts two states together goes by way of the automaton in which these are joined
abbrev pub EquivalencesFactor : Type 0
EquivalencesFactor = (A : TreeAutomaton) (p q : ℕ) (g : List ℕ) → IsSound A → Contains A.states p → Contains A.states q → p ≢ q → AreLeasts A g → image g p ≡ image g q → AreLeasts A (joining A.next p q) × Factored A p q g

-- ---- one result

-- there is at most one list of forced pairs
abbrev pub ForcedPairsAreOne : Type 0
ForcedPairsAreOne = (A : TreeAutomaton) (E : List RewriteEquation) (xs ys : List (ℕ × ℕ)) → AreForcedPairs A E xs → AreForcedPairs A E ys → xs ≡ ys

-- merging has at most one result
abbrev pub MergedIsOne : Type 0
MergedIsOne = (E : List RewriteEquation) (A B C : TreeAutomaton) (h g : List ℕ) → Merged E A B h → Merged E A C g → (B ≡ C) × (h ≡ g)

-- it is the quotient by the least equivalence in whose quotient nothing is forced
abbrev pub MergedIsLeast : Type 0
MergedIsLeast = (E : List RewriteEquation) (A B : TreeAutomaton) (h : List ℕ) → IsSound A → IsInOrder A → Merged E A B h → IsLeastMerge E A B h

-- and there is only one such, so the order of merges doesn't matter
abbrev pub LeastMergeIsOne : Type 0
LeastMergeIsOne = (E : List RewriteEquation) (A B C : TreeAutomaton) (h g : List ℕ) → IsSound A → IsLeastMerge E A B h → IsLeastMerge E A C g → h ≡ g

-- ---- there is a result

-- a list of forced pairs
pub record HasForcedPairs (A : TreeAutomaton) (E : List RewriteEquation) : Type 0 where
  pub pairs : List (ℕ × ℕ)
  pub are : AreForcedPairs A E pairs

abbrev pub ForcedPairsAreThere : Type 0
ForcedPairsAreThere = (A : TreeAutomaton) (E : List RewriteEquation) → All IsEquation E → HasForcedPairs A E

-- a result of merging
pub record HasMerged (E : List RewriteEquation) (A : TreeAutomaton) : Type 0 where
  pub automaton : TreeAutomaton
  pub classes : List ℕ
  pub merged : Merged E A automaton classes

-- wherever each state is below `next`
abbrev pub MergedIsThere : Type 0
MergedIsThere = (E : List RewriteEquation) (A : TreeAutomaton) → All IsEquation E → All (λ q. q < A.next) A.states → HasMerged E A

-- what is the least merge is what merging gives
abbrev pub LeastMergeIsMerged : Type 0
LeastMergeIsMerged = (E : List RewriteEquation) (A B : TreeAutomaton) (h : List ℕ) → All IsEquation E → IsSound A → IsInOrder A → IsLeastMerge E A B h → Merged E A B h

-- ---- in any order

-- these classes are on the way: what merges from their quotient on merges from the beginning on
pub record IsOnTheWay (E : List RewriteEquation) (A : TreeAutomaton) (t : List ℕ) : Type 0 where
  pub leasts : AreLeasts A t
  pub goes_on : (B : TreeAutomaton) (h : List ℕ) → IsLeastMerge E (quotient A t) B h → IsLeastMerge E A B (followed t h)

-- nothing joined is on the way; joining two forced states stays on it; where nothing is forced, it ends
abbrev pub Begins : List RewriteEquation → TreeAutomaton → Type 0
Begins E A = IsOnTheWay E A (apart A.next)

abbrev pub Joins : List RewriteEquation → TreeAutomaton → Type 0
Joins E A = (t : List ℕ) (p q : ℕ) → IsOnTheWay E A t → Forces (quotient A t) E p q → IsOnTheWay E A (followed t (joining A.next p q))

abbrev pub EndsLeast : List RewriteEquation → TreeAutomaton → Type 0
EndsLeast E A = (t : List ℕ) → IsOnTheWay E A t → ForcesNothing (quotient A t) E → IsLeastMerge E A (quotient A t) t

abbrev pub AnyOrderWill : Type 0
AnyOrderWill = (E : List RewriteEquation) (A : TreeAutomaton) → IsSound A → IsInOrder A → Begins E A × (Joins E A × EndsLeast E A)

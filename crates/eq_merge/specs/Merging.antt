-- Merging by equations: which states are forced together, and the automaton in which nothing is forced any more (Genet and Rusu, JSC 2010; the order is this
-- project's own).
use Rattle.std.specs.Prelude.{◌≡◌, ◌≢◌, ◌⊎◌, ℕ, List, [], ◌∷◌, ◌++◌, map}
use Rattle.std.specs.List.{All, Contains}
use Rattle.ranked_terms.specs.Terms.{assigned}
use Rattle.trs_rules.specs.Rules.{RewriteEquation}
use Rattle.ta_core.specs.TreeAutomaton.{TreeAutomaton}
use Rattle.ta_core.specs.Runs.{RunsPlain}
use Rattle.ta_core.specs.Acceptance.{image}
use Rattle.eq_merge.specs.Quotients.{AreLeasts, quotient, joining, apart, followed}

-- ---- forced pairs

-- one assignment of states to the variables of both sides: the left side runs to p and the right side to q, without epsilon transitions
pub record Equates (A : TreeAutomaton) (equation : RewriteEquation) (p q : ℕ) : Type 0 where
  pub σ : ℕ → ℕ
  pub are_states : All (λ v. Contains A.states (σ v)) equation.vars
  pub left : RunsPlain A (assigned σ equation.left) p
  pub right : RunsPlain A (assigned σ equation.right) q

-- two different states that some equation equates
pub record Forces (A : TreeAutomaton) (E : List RewriteEquation) (p q : ℕ) : Type 0 where
  pub differ : p ≢ q
  pub equation : RewriteEquation
  pub is_equation : Contains E equation
  pub equates : Equates A equation p q ⊎ Equates A equation q p

-- no two states are forced together
abbrev pub ForcesNothing : TreeAutomaton → List RewriteEquation → Type 0
ForcesNothing A E = (p q : ℕ) → Forces A E p q → ⊥

-- all pairs of members, each with those behind it
abbrev pub pairs_of : List ℕ → List (ℕ × ℕ)
pairs_of [] = []
pairs_of (p ∷ ps) = map (λ q. (p, q)) ps ++ pairs_of ps

-- the forced ones of the pairs, in their order
pub data ForcedAmong (A : TreeAutomaton) (E : List RewriteEquation) : List (ℕ × ℕ) → List (ℕ × ℕ) → Type 0 where
  none : ForcedAmong A E [] []
  forced_one : {p q : ℕ} {pairs forced : List (ℕ × ℕ)} → Forces A E p q → ForcedAmong A E pairs forced → ForcedAmong A E ((p, q) ∷ pairs) ((p, q) ∷ forced)
  free_one : {p q : ℕ} {pairs forced : List (ℕ × ℕ)} → (Forces A E p q → ⊥) → ForcedAmong A E pairs forced → ForcedAmong A E ((p, q) ∷ pairs) forced

-- the list of forced pairs, the lesser state first, in order, since the states ascend
abbrev pub AreForcedPairs : TreeAutomaton → List RewriteEquation → List (ℕ × ℕ) → Type 0
AreForcedPairs A E pairs = ForcedAmong A E (pairs_of A.states) pairs

-- ---- merging

-- the first forced pair is joined, again and again, until there is none; the representatives are followed one after the other
pub data Merged (E : List RewriteEquation) : TreeAutomaton → TreeAutomaton → List ℕ → Type 0 where
  done : {A : TreeAutomaton} → AreForcedPairs A E [] → Merged E A A (apart A.next)
  join : {A B : TreeAutomaton} {p q : ℕ} {others : List (ℕ × ℕ)} {h : List ℕ} → AreForcedPairs A E ((p, q) ∷ others) →
      Merged E (quotient A (joining A.next p q)) B h → Merged E A B (followed (joining A.next p q) h)

-- each equivalence in whose quotient nothing is forced puts together what h does
abbrev pub JoinsLeast : TreeAutomaton → List RewriteEquation → List ℕ → Type 0
JoinsLeast A E h = (g : List ℕ) → AreLeasts A g → ForcesNothing (quotient A g) E → (p q : ℕ) → Contains A.states p → Contains A.states q → image h p ≡ image h q → image g p ≡ image g q

-- the quotient by the least equivalence in whose quotient nothing is forced
pub record IsLeastMerge (E : List RewriteEquation) (A B : TreeAutomaton) (h : List ℕ) : Type 0 where
  pub leasts : AreLeasts A h
  pub is_quotient : B ≡ quotient A h
  pub forces_nothing : ForcesNothing B E
  pub least : JoinsLeast A E h

-- How the pairs of a state and a low term are made, with the terms by their identities. These serve private contracts alone.
use Rattle.std.specs.Prelude.{◌≡◌, ◌≢◌, ◌↔◌, ◌⊎◌, ℕ, ◌<◌, ◌≤◌, Bool, false, ◌||◌, if◌then◌else◌, List, [], ◌∷◌, ◌++◌, map, take, length, slice_index_or, IsTrue, All, Contains}
use Rattle.std.specs.List.{slice_get, AllPairs}
use Rattle.std.specs.List.Sorted.{IsNonDecreasingBy}
use Rattle.std.specs.Prelude.{Some}
use Rattle.ranked_terms.specs.Terms.{size_of}
use Rattle.ranked_terms.specs.declared.term.Term.{Term}
use Rattle.ta_core.specs.TreeAutomaton.{TreeAutomaton}
use Rattle.ta_core.specs.declared.trans.Trans.{Trans}
use Rattle.ranked_terms.specs.declared.term.Config.{State}
use Rattle.ta_core.specs.Runs.{Runs}
use Rattle.term_store.specs.Store.{term_at, applied, Keeps}
use Rattle.derive_search.specs.Starts.{IsLowRun, AreTooMany}
use Rattle.derive_search.specs.Made.{IsMade}

-- pairs with the terms in place of their identities
abbrev pub named_pairs : List Term → List (ℕ × ℕ) → List (ℕ × Term)
named_pairs terms pairs = map (λ p. (p.0, term_at terms p.1)) pairs

-- each identity is there
abbrev pub ArePlaced : List Term → List (ℕ × ℕ) → Type 0
ArePlaced terms pairs = All (λ p. p.1 < length terms) pairs

-- the pair was there, or it is the last one now
abbrev pub AddsPair : ℕ × ℕ → List (ℕ × ℕ) → List (ℕ × ℕ) → Type 0
AddsPair pair old new = (Contains old pair × (new ≡ old)) ⊎ (new ≡ old ++ pair ∷ [])

-- the store and the pairs have grown at their ends, and each new pair has the property
pub record Grows (before after : List Term) (old new : List (ℕ × ℕ)) (Q : ℕ × Term → Type 0) : Type 0 where
  pub keeps : Keeps before after
  pub more : List (ℕ × ℕ)
  pub is : new ≡ old ++ more
  pub there : ArePlaced after more
  pub only : (pair : ℕ × Term) → Contains (named_pairs after more) pair → Q pair

-- whatever has the property is there
abbrev pub HasEach : List Term → List (ℕ × ℕ) → (ℕ × Term → Type 0) → Type 0
HasEach terms pairs Q = (pair : ℕ × Term) → Q pair → Contains (named_pairs terms pairs) pair

-- ---- identities by states, each with a mark whether it is one of the last round

abbrev pub known_at : List (List (ℕ × Bool)) → ℕ → List (ℕ × Bool)
known_at known q = slice_index_or known q []

-- the first of the pairs by their states; those from a place on are marked
pub record IsGrouped (pairs : List (ℕ × ℕ)) (first count : ℕ) (known : List (List (ℕ × Bool))) : Type 0 where
  pub each : (k q id : ℕ) → k < count → slice_get pairs k ≡ Some (q, id) → (fresh : Bool) × (first ≤ k → IsTrue fresh) × Contains (known_at known q) (id, fresh)
  pub only : (q id : ℕ) (fresh : Bool) → Contains (known_at known q) (id, fresh) → Contains pairs (q, id)

-- whether an identity is marked, as a number
abbrev pub mark : ℕ × Bool → ℕ
mark e = if e.1 then 1 else 0

-- in each list those that are marked stand behind the others
abbrev pub AreOldFirst : List (List (ℕ × Bool)) → Type 0
AreOldFirst known = (q : ℕ) → IsNonDecreasingBy mark (known_at known q)

-- the same of the first pairs, of which those before a place are not marked
pub record IsSplit (first count : ℕ) (known : List (List (ℕ × Bool))) : Type 0 where
  pub ordered : AreOldFirst known
  pub old : count ≤ first → (q : ℕ) (e : ℕ × Bool) → Contains (known_at known q) e → e.1 ≡ false

-- one identity more for a state
pub record AddsKnown (state : ℕ) (e : ℕ × Bool) (old new : List (List (ℕ × Bool))) : Type 0 where
  pub len : length new ≡ length old
  pub here : known_at new state ≡ known_at old state ++ e ∷ []
  pub others : (q : ℕ) → q ≢ state → known_at new q ≡ known_at old q

-- an identity for each of these states, at least one of which is marked, unless one was before
abbrev pub IsChoice : List (List (ℕ × Bool)) → Bool → List ℕ → List ℕ → Type 0
IsChoice known fresh [] [] = IsTrue fresh
IsChoice known fresh [] (id ∷ ids) = ⊥
IsChoice known fresh (q ∷ states) [] = ⊥
IsChoice known fresh (q ∷ states) (id ∷ ids) = (new : Bool) × Contains (known_at known q) (id, new) × IsChoice known (fresh || new) states ids

-- the symbol over what was chosen before and a choice, with a state of the list
pub record IsChosen (terms : List Term) (sym : ℕ) (chosen : List ℕ) (known : List (List (ℕ × Bool))) (fresh : Bool) (states reached : List ℕ) (pair : ℕ × Term) : Type 0 where
  pub ids : List ℕ
  pub choice : IsChoice known fresh states ids
  pub reaches : Contains reached pair.0
  pub is : pair.1 ≡ applied terms sym (chosen ++ ids)

-- for one choice that term is large
pub record IsLargeChoice (terms : List Term) (sym : ℕ) (chosen : List ℕ) (known : List (List (ℕ × Bool))) (fresh : Bool) (states : List ℕ) : Type 0 where
  pub ids : List ℕ
  pub choice : IsChoice known fresh states ids
  pub large : 1024 < size_of (applied terms sym (chosen ++ ids))

-- one of these states has no identity
pub record LacksOne (known : List (List (ℕ × Bool))) (states : List ℕ) : Type 0 where
  pub state : ℕ
  pub member : Contains states state
  pub lacks : known_at known state ≡ []

-- the known identities are there
abbrev pub AreKnown : List Term → List (List (ℕ × Bool)) → Type 0
AreKnown terms known = (q id : ℕ) (fresh : Bool) → Contains (known_at known q) (id, fresh) → id < length terms

-- the transition's symbol over a choice for its arguments, with a state to which its target runs
pub record IsMadeBy (A : TreeAutomaton) (terms : List Term) (known : List (List (ℕ × Bool))) (fresh : Bool) (t : Trans) (pair : ℕ × Term) : Type 0 where
  pub ids : List ℕ
  pub choice : IsChoice known fresh t.args ids
  pub runs : Runs A (State t.to) pair.0
  pub is : pair.1 ≡ applied terms t.sym ids

-- whatever is made of the pairs is there, unless it is made of those before a place alone, and this is not the first round
abbrev pub IsNextRound : TreeAutomaton → List Term → List (ℕ × ℕ) → ℕ → Bool → List Term → List (ℕ × ℕ) → Type 0
IsNextRound A before old first is_first_round after new = (pair : ℕ × Term) → IsMade A (named_pairs before old) pair
    → Contains (named_pairs after new) pair ⊎ ((IsTrue is_first_round → ⊥) × IsMade A (named_pairs before (take first old)) pair)

-- something large is made of the pairs
pub record MakesLarge (A : TreeAutomaton) (pairs : List (ℕ × Term)) : Type 0 where
  pub pair : ℕ × Term
  pub made : IsMade A pairs pair
  pub large : 1024 < size_of pair.1

-- all pairs of a state and a low term, each once, and not too many
pub record AreLowPairs (A : TreeAutomaton) (height limit : ℕ) (terms : List Term) (pairs : List (ℕ × ℕ)) : Type 0 where
  pub exact : (pair : ℕ × Term) → Contains (named_pairs terms pairs) pair ↔ IsLowRun A height pair
  pub placed : ArePlaced terms pairs
  pub distinct : AllPairs (λ x y. x ≢ y) (named_pairs terms pairs)
  pub few : length pairs ≤ limit
  pub fits : AreTooMany A height limit → ⊥

-- the identities that stand with one of these states, as often as they do
pub record AreFinal (finals : List ℕ) (pairs : List (ℕ × ℕ)) (ids : List ℕ) : Type 0 where
  pub each : (q id : ℕ) → Contains pairs (q, id) → Contains finals q → Contains ids id
  pub only : (id : ℕ) → Contains ids id → (q : ℕ) × Contains finals q × Contains pairs (q, id)
  pub few : length ids ≤ length pairs

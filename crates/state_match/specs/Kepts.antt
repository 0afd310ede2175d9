-- The subterms of a pattern in a table, and the states to which each of them runs. This serves private contracts alone.
use Rattle.std.specs.Prelude.{◌≡◌, ◌↔◌, ◌≤◌, ◌<◌, ◌+◌, ◌==◌, ℕ, zero, suc, Bool, true, List, [], ◌∷◌, ◌++◌, length, take, drop, get_or, Contains}
use Rattle.std.specs.List.{position_or_len}
use Rattle.ranked_terms.specs.Terms.{assigned}
use Rattle.ranked_terms.specs.declared.term.Pattern.{Pattern, Var, App}
use Rattle.ranked_terms.specs.declared.term.Config.{State}
use Rattle.ta_core.specs.TreeAutomaton.{TreeAutomaton}
use Rattle.ta_core.specs.Closure.{state_in}
use Rattle.ta_core.specs.Reached.{EntersAndReaches}
use Rattle.ta_core.specs.Runs.{Runs}
use Rattle.state_match.specs.Sides.{Side}
use Rattle.state_match.specs.declared.nodes.Node.{Node}
use Rattle.state_match.specs.declared.nodes.Source.{Source}
use Rattle.state_match.specs.declared.nodes.Source.TheVariants.{Variable, Application}

-- ---- the table

-- the states of so many first variables decide the pattern's
abbrev pub Decides : List ℕ → ℕ → Pattern → Type 0
Decides vars until p = (σ τ : List ℕ) → take until σ ≡ take until τ → assigned (state_in vars σ) p ≡ assigned (state_in vars τ) p

-- a variable by its place, or a symbol with arguments that stand side by side among the first so many patterns
abbrev pub IsFrom : List ℕ → List Pattern → ℕ → Source → Pattern → Type 0
IsFrom vars patterns k (Variable place) p = (v : ℕ) × (p ≡ Var v) × (place ≡ position_or_len (λ w. v == w) vars)
IsFrom vars patterns k (Application f start count) p = (start + count ≤ k) × (p ≡ App f (take count (drop start patterns)))

-- the subterm's node says what decides its states and where they come from
pub record IsNode (vars : List ℕ) (patterns : List Pattern) (k : ℕ) (n : Node) (p : Pattern) : Type 0 where
  pub decides : Decides vars n.until p
  pub from : IsFrom vars patterns k n.source p

-- each with arguments among the patterns before it
abbrev pub IsTable : List ℕ → List Pattern → ℕ → List Node → List Pattern → Type 0
IsTable vars patterns k [] [] = Unit {0}
IsTable vars patterns k [] (p ∷ ps) = ⊥
IsTable vars patterns k (n ∷ ns) [] = ⊥
IsTable vars patterns k (n ∷ ns) (p ∷ ps) = IsNode vars patterns k n p × IsTable vars patterns (suc k) ns ps

-- the whole table
abbrev pub AreNodes : List ℕ → List Node → List Pattern → Type 0
AreNodes vars ns ps = IsTable vars ps 0 ns ps

-- the nodes of these patterns, with the arguments among the first so many of the others, and so many first variables decide
-- each
abbrev pub AreArguments : List ℕ → List Pattern → ℕ → ℕ → List Node → List Pattern → Type 0
AreArguments vars patterns k until [] [] = Unit {0}
AreArguments vars patterns k until [] (p ∷ ps) = ⊥
AreArguments vars patterns k until (n ∷ ns) [] = ⊥
AreArguments vars patterns k until (n ∷ ns) (p ∷ ps) = (n.until ≤ until) × IsNode vars patterns k n p × AreArguments vars patterns k until ns ps

-- the table of some patterns
pub record HasPatterns (ns : List Node) : Type 0 where
  pub vars : List ℕ
  pub patterns : List Pattern
  pub are : AreNodes vars ns patterns

-- the pattern stands last in the table
pub record HasLast (vars : List ℕ) (p : Pattern) (ns : List Node) : Type 0 where
  pub before : List Pattern
  pub are : AreNodes vars ns (before ++ p ∷ [])

-- the table grew, and the node is for the pattern
pub record Grows (vars : List ℕ) (before : List Pattern) (n : Node) (p : Pattern) (ns : List Node) : Type 0 where
  pub all : List Pattern
  pub more : List Pattern
  pub is : all ≡ before ++ more
  pub are : AreNodes vars ns all
  pub node : IsNode vars all (length ns) n p

-- ---- the states

-- those to which a variable's state or the symbol with these arguments runs
abbrev pub RunsFrom : TreeAutomaton → List ℕ → List (List ℕ) → Source → ℕ → Type 0
RunsFrom A σ values (Variable place) q = Runs A (State (get_or σ place 0)) q
RunsFrom A σ values (Application f start count) q = EntersAndReaches A f (take count (drop start values)) q

-- where the arguments end
abbrev pub end_of : Source → ℕ
end_of (Variable place) = 0
end_of (Application f start count) = start + count

-- the set has the states to which the pattern runs with these states for its variables
abbrev pub IsExact : TreeAutomaton → List ℕ → List ℕ → Pattern → List ℕ → Type 0
IsExact A vars σ p set = (q : ℕ) → Contains set q ↔ Runs A (assigned (state_in vars σ) p) q

-- the first so many sets are exact, and of the others those whose variables stay
abbrev pub AreExactTo : TreeAutomaton → List ℕ → List ℕ → ℕ → ℕ → List Node → List Pattern → List (List ℕ) → Type 0
AreExactTo A vars σ staying k [] [] [] = Unit {0}
AreExactTo A vars σ staying k [] [] (set ∷ sets) = ⊥
AreExactTo A vars σ staying k [] (p ∷ ps) sets = ⊥
AreExactTo A vars σ staying k (n ∷ ns) [] sets = ⊥
AreExactTo A vars σ staying k (n ∷ ns) (p ∷ ps) [] = ⊥
AreExactTo A vars σ staying zero (n ∷ ns) (p ∷ ps) (set ∷ sets) = (n.until < staying → IsExact A vars σ p set) × AreExactTo A vars σ staying zero ns ps sets
AreExactTo A vars σ staying (suc k) (n ∷ ns) (p ∷ ps) (set ∷ sets) = IsExact A vars σ p set × AreExactTo A vars σ staying k ns ps sets

-- each set is exact
abbrev pub AreExactAll : TreeAutomaton → List ℕ → List ℕ → List Node → List Pattern → List (List ℕ) → Type 0
AreExactAll A vars σ ns ps sets = AreExactTo A vars σ 0 (length ns) ns ps sets

-- where those whose variables stay are exact, all become so
abbrev pub Renews : TreeAutomaton → List ℕ → ℕ → List Node → List (List ℕ) → List (List ℕ) → Type 0
Renews A σ staying ns old new = (vars : List ℕ) (ps : List Pattern) → AreNodes vars ns ps → AreExactTo A vars σ staying 0 ns ps old → AreExactTo A vars σ staying (length ns) ns ps new

-- what is kept from one assignment to the next
pub record IsKept (side : Side) (ns : List Node) (sets : List (List ℕ)) (is_known : Bool) (last : List ℕ) : Type 0 where
  pub before : List Pattern
  pub are : AreNodes side.vars ns (before ++ side.pattern ∷ [])
  pub long : length sets ≡ length ns
  pub exact : is_known ≡ true → AreExactAll side.automaton side.vars last ns (before ++ side.pattern ∷ []) sets

-- Normalising a pair: its right side is put into the automaton, node by node (Feuillade, Genet and Viet Triem Tong, JAR 2004; which state a node goes to,
-- and the form of approximation entries, are this project's own).
use Rattle.std.specs.Prelude.{◌≡◌, ◌⊎◌, ℕ, ◌<◌, ◌≤◌, List, [], ◌∷◌, Option, Some, None, map}
use Rattle.std.specs.List.{slice_get}
use Rattle.ranked_terms.specs.declared.term.Config.{Config, State, App}
use Rattle.ranked_terms.specs.declared.term.Shape.{Shape}
use Rattle.ranked_terms.specs.declared.term.Shape.TheOpen as shape
use Rattle.ranked_terms.specs.declared.term.Shape.TheFolds.{fold-Shape}
use Rattle.trs_rules.specs.Rules.{RewriteRule}
use Rattle.trs_rules.specs.declared.entry.Entry.{Entry}
use Rattle.trs_rules.specs.declared.sigma.Pair.{Pair}
use Rattle.ta_core.specs.TreeAutomaton.{TreeAutomaton}
use Rattle.ta_core.specs.Growth.{with_state, with_trans, with_eps, IsLeastTarget, HasNoTarget}
use Rattle.ta_core.specs.Acceptance.{image}
use Rattle.ta_core.specs.Closure.{assigned_by}

-- ---- approximation entries

-- a shape with states for its variables; a state that it names is read through the map
abbrev pub filled_step : List ℕ → (ℕ → ℕ) → shape.Shape-F Config → Config
filled_step h τ (shape.Var v) = State (τ v)
filled_step h τ (shape.State q) = State (image h q)
filled_step h τ (shape.App f cs) = App f cs

abbrev pub filled : List ℕ → (ℕ → ℕ) → Shape → Config
filled h τ = fold-Shape Config (filled_step h τ)

-- what is normalised and how: the entries, the map from the states that they name, the assigned right side, and the pair's state
pub record Task : Type 0 where
  pub entries : List Entry
  pub places : List ℕ
  pub whole : Config
  pub state : ℕ

-- one assignment of states to the entry's variables makes the assigned right side, the pair's state and the node
pub record Fits (task : Task) (node : Config) (entry : Entry) : Type 0 where
  pub τ : ℕ → ℕ
  pub whole : filled task.places τ entry.whole ≡ task.whole
  pub at : filled task.places τ entry.at ≡ State task.state
  pub made : filled task.places τ entry.node ≡ node

-- the state that the first entry that fits gives to the node, or none where no entry fits
pub data FirstFit (task : Task) (node : Config) : List Entry → Option ℕ → Type 0 where
  none : FirstFit task node [] None
  fits : {e : Entry} {es : List Entry} → Fits task node e → FirstFit task node (e ∷ es) (Some (image task.places e.target))
  later : {e : Entry} {es : List Entry} {found : Option ℕ} → (Fits task node e → ⊥) → FirstFit task node es found → FirstFit task node (e ∷ es) found

abbrev pub node_of : ℕ → List ℕ → Config
node_of f ps = App f (map State ps)

abbrev pub IsSent : Task → ℕ → List ℕ → Option ℕ → Type 0
IsSent task f ps found = FirstFit task (node_of f ps) task.entries found

-- ---- putting a configuration

-- the node `f(ps)` goes to the state of the first entry that fits; otherwise to the least target that is there; otherwise to a fresh state. The transition
-- to it is there then
pub data Goes (task : Task) (A : TreeAutomaton) (f : ℕ) (ps : List ℕ) : ℕ → TreeAutomaton → Type 0 where
  entry : {p : ℕ} → IsSent task f ps (Some p) → Goes task A f ps p (with_trans A f ps p)
  reuse : {p : ℕ} → IsSent task f ps None → IsLeastTarget A f ps p → Goes task A f ps p A
  fresh : IsSent task f ps None → HasNoTarget A f ps → Goes task A f ps A.next (with_trans (with_state A) f ps A.next)

mutual
  -- the configuration, put into A, stands at the state p of B: a state stands for itself, and the arguments of a node are put before it
  pub data Puts (task : Task) : TreeAutomaton → Config → ℕ → TreeAutomaton → Type 0 where
    state : {A : TreeAutomaton} {q : ℕ} → Puts task A (State q) q A
    node : {A B C : TreeAutomaton} {f p : ℕ} {cs : List Config} {ps : List ℕ} → PutsAll task A cs ps B → Goes task B f ps p C → Puts task A (App f cs) p C

  -- from left to right, each into the automaton that the one before left
  pub data PutsAll (task : Task) : TreeAutomaton → List Config → List ℕ → TreeAutomaton → Type 0 where
    none : {A : TreeAutomaton} → PutsAll task A [] [] A
    more : {A B C : TreeAutomaton} {c : Config} {p : ℕ} {cs : List Config} {ps : List ℕ} → Puts task A c p B → PutsAll task B cs ps C →
        PutsAll task A (c ∷ cs) (p ∷ ps) C

-- ---- pairs

-- the entries and the map from the states that they name, and the rules
pub record Context : Type 0 where
  pub entries : List Entry
  pub places : List ℕ
  pub rules : List RewriteRule

abbrev pub task_of : Context → RewriteRule → Pair → Task
task_of context rule pair = record { entries = context.entries; places = context.places; whole = assigned_by rule pair.sigma rule.right; state = pair.state }

-- the pair, normalised in A, gives B, in which its right side stands at p, from where an epsilon transition leads to the pair's state
pub record Normalised (context : Context) (A : TreeAutomaton) (pair : Pair) (p : ℕ) (B : TreeAutomaton) : Type 0 where
  pub rule : RewriteRule
  pub is_rule : slice_get context.rules pair.rule ≡ Some rule
  pub put : TreeAutomaton
  pub puts : Puts (task_of context rule pair) A (assigned_by rule pair.sigma rule.right) p put
  pub led : B ≡ with_eps put p pair.state

-- the pairs one after the other, each into the automaton that the one before left
pub data NormalisedAll (context : Context) : TreeAutomaton → List Pair → TreeAutomaton → Type 0 where
  none : {A : TreeAutomaton} → NormalisedAll context A [] A
  more : {A B C : TreeAutomaton} {pair : Pair} {p : ℕ} {pairs : List Pair} → Normalised context A pair p B → NormalisedAll context B pairs C →
      NormalisedAll context A (pair ∷ pairs) C

-- ---- how many states

-- going from A to B, one fresh state after the other, needs one while `next` is at least `most`
pub record NeedsMore (most : ℕ) (A B : TreeAutomaton) : Type 0 where
  pub some : A.next < B.next
  pub above : most < B.next

-- it needs none, or `next` stays within `most`
abbrev pub StaysWithin : ℕ → TreeAutomaton → TreeAutomaton → Type 0
StaysWithin most A B = (B.next ≡ A.next) ⊎ (B.next ≤ most)

-- of these entries and rules, the states that entries name being read through the map
abbrev pub by : List Entry → List ℕ → List RewriteRule → Context
by entries h rules = record { entries = entries; places = h; rules = rules }

-- the pair, normalised without a limit, needs a fresh state while `next` is at the limit
pub record NeedsMoreFor (context : Context) (most : ℕ) (A : TreeAutomaton) (pair : Pair) : Type 0 where
  pub state : ℕ
  pub grown : TreeAutomaton
  pub normalised : Normalised context A pair state grown
  pub needs : NeedsMore most A grown

-- the same of all pairs
pub record NeedMoreFor (context : Context) (most : ℕ) (A : TreeAutomaton) (pairs : List Pair) : Type 0 where
  pub grown : TreeAutomaton
  pub normalised : NormalisedAll context A pairs grown
  pub needs : NeedsMore most A grown

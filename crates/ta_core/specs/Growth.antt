-- What is added to an automaton, and the least target of a symbol and arguments (this project's own).
use Rattle.std.specs.Prelude.{ℕ, ◌+◌, ◌≤◌, ◌==◌, List, [], ◌∷◌, ◌++◌, if◌then◌else◌}
use Rattle.std.specs.List.{Contains}
use Rattle.std.specs.BTreeSet.{insert_key}
use Rattle.ta_core.specs.TreeAutomaton.{TreeAutomaton, trans_of, trans_cmp, pair_cmp}

-- ---- what is added

-- one state more, which gets the number `next`
abbrev pub with_state : TreeAutomaton → TreeAutomaton
with_state A = record A { states = A.states ++ A.next ∷ []; next = A.next + 1 }

-- the transition `f(ps) -> p` at its place, unless it is there
abbrev pub with_trans : TreeAutomaton → ℕ → List ℕ → ℕ → TreeAutomaton
with_trans A f ps p = record A { trans = insert_key trans_cmp A.trans (trans_of f ps p) }

-- the epsilon transition `p -> q` at its place, unless it is there or p is q
abbrev pub with_eps : TreeAutomaton → ℕ → ℕ → TreeAutomaton
with_eps A p q = if p == q then A else record A { eps = insert_key pair_cmp A.eps (p, q) }

-- ---- targets

-- p is the least target of a transition from `f(ps)`
pub record IsLeastTarget (A : TreeAutomaton) (f : ℕ) (ps : List ℕ) (p : ℕ) : Type 0 where
  pub has : Contains A.trans (trans_of f ps p)
  pub least : (q : ℕ) → Contains A.trans (trans_of f ps q) → p ≤ q

abbrev pub HasNoTarget : TreeAutomaton → ℕ → List ℕ → Type 0
HasNoTarget A f ps = (q : ℕ) → Contains A.trans (trans_of f ps q) → ⊥

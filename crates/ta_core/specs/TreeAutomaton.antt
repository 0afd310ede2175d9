-- What a contract sees of an automaton (TATA, section 1.1, with epsilon transitions; finite and bottom-up).
use Rattle.std.specs.Prelude.{◌≢◌, ℕ, ◌<◌, ◌≤◌, List, []}
use Rattle.std.specs.declared.cmp.Ordering.{Ordering}
use Rattle.std.specs.List.{Contains, All}
use Rattle.std.specs.Ordering.{nat_cmp, ordering_then}
use Rattle.std.specs.Cmp.Lexicographic.{slice_cmp}
use Rattle.ta_core.specs.Limits.{max_states}
use Rattle.ta_core.specs.declared.trans.Trans.{Trans}

-- the states, the number that the next state gets, the final states, the transitions, and the epsilon transitions `p -> q` as pairs
pub record TreeAutomaton : Type 0 where
  pub states : List ℕ
  pub next : ℕ
  pub finals : List ℕ
  pub trans : List Trans
  pub eps : List (ℕ × ℕ)

-- these states, below this number, and nothing else
abbrev pub bare : ℕ → List ℕ → TreeAutomaton
bare next states = record { states = states; next = next; finals = []; trans = []; eps = [] }

-- the transition `sym(args) -> to`
abbrev pub trans_of : ℕ → List ℕ → ℕ → Trans
trans_of sym args to = record { sym = sym; args = args; to = to }

-- ---- orders

-- transitions by symbol, then by arguments, then by target
abbrev pub trans_cmp : Trans → Trans → Ordering
trans_cmp s t = ordering_then (nat_cmp s.sym t.sym) (ordering_then (slice_cmp nat_cmp s.args t.args) (nat_cmp s.to t.to))

-- pairs by their first and then by their second part
abbrev pub pair_cmp : ℕ × ℕ → ℕ × ℕ → Ordering
pair_cmp e f = ordering_then (nat_cmp e.0 f.0) (nat_cmp e.1 f.1)

-- ---- what is true of every automaton

-- each state of the transition is in the list
pub record IsTransOf (states : List ℕ) (t : Trans) : Type 0 where
  pub args : All (Contains states) t.args
  pub to : Contains states t.to

-- the epsilon transition leads from a state of the list to another one of it
pub record IsEpsOf (states : List ℕ) (e : ℕ × ℕ) : Type 0 where
  pub from : Contains states e.0
  pub to : Contains states e.1
  pub moves : e.0 ≢ e.1

-- each state is below `next`, and each state that is named is in the list of states
pub record IsSound (A : TreeAutomaton) : Type 0 where
  pub below : All (λ q. q < A.next) A.states
  pub finals : All (Contains A.states) A.finals
  pub trans : All (IsTransOf A.states) A.trans
  pub eps : All (IsEpsOf A.states) A.eps

-- an automaton as its type keeps it: `next` is at most 16,384 besides
pub record IsKept (A : TreeAutomaton) : Type 0 where
  pub sound : IsSound A
  pub few : A.next ≤ max_states

-- Quotients of automata by an equivalence of states (Genet and Rusu, JSC 2010; that a class goes by its least state is this project's own).
use Rattle.std.specs.Prelude.{◌≡◌, ℕ, ◌<◌, ◌≤◌, ◌==◌, min, max, Bool, not, List, length, map, filter, if◌then◌else◌}
use Rattle.std.specs.Ordering.{nat_cmp}
use Rattle.std.specs.List.{Contains, range_with_len}
use Rattle.list_laws.specs.InOrder.{in_order}
use Rattle.ta_core.specs.declared.trans.Trans.{Trans}
use Rattle.ta_core.specs.TreeAutomaton.{TreeAutomaton, trans_of, trans_cmp, pair_cmp}
use Rattle.ta_core.specs.Acceptance.{image}

-- an equivalence of states, told by the least state of each one's class: the list has a place for each number below `next`, and a number that is no state
-- stands for itself
pub record AreLeasts (A : TreeAutomaton) (h : List ℕ) : Type 0 where
  pub each : length h ≡ A.next
  pub states : (q : ℕ) → Contains A.states q → Contains A.states (image h q)
  pub in_class : (q : ℕ) → Contains A.states q → image h (image h q) ≡ image h q
  pub least : (q : ℕ) → Contains A.states q → image h q ≤ q
  pub others : (q : ℕ) → q < A.next → (Contains A.states q → ⊥) → image h q ≡ q

-- a transition, and an epsilon transition, with each state replaced by the least of its class
abbrev pub renamed : List ℕ → Trans → Trans
renamed h t = trans_of t.sym (map (image h) t.args) (image h t.to)

abbrev pub renamed_eps : List ℕ → ℕ × ℕ → ℕ × ℕ
renamed_eps h e = (image h e.0, image h e.1)

-- the epsilon transition leads from a state to another one
abbrev pub moves : ℕ × ℕ → Bool
moves e = not (e.0 == e.1)

-- each state by the least of its class; `next` stays, each transition stands once, no epsilon transition leads from a state to itself, and a class is final
-- where a member is
abbrev pub quotient : TreeAutomaton → List ℕ → TreeAutomaton
quotient A h = record {
  states = filter (λ q. image h q == q) A.states;
  next = A.next;
  finals = in_order nat_cmp (map (image h) A.finals);
  trans = in_order trans_cmp (map (renamed h) A.trans);
  eps = in_order pair_cmp (filter moves (map (renamed_eps h) A.eps));
}

-- the classes that put just these two states together
abbrev pub joining : ℕ → ℕ → ℕ → List ℕ
joining next p q = map (λ r. if r == max p q then min p q else r) (range_with_len 0 next)

-- no two are put together
abbrev pub apart : ℕ → List ℕ
apart next = range_with_len 0 next

-- first the one, then the other
abbrev pub followed : List ℕ → List ℕ → List ℕ
followed h g = map (image g) h

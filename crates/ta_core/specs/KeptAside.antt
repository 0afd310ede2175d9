-- What is added to an automaton, kept aside. These serve private contracts alone.
use Rattle.std.specs.Prelude.{◌≡◌, ℕ, ◌+◌, ◌≤◌, List, ◌++◌, Option, Some, None, false, min}
use Rattle.std.specs.List.{Contains, range_with_len}
use Rattle.std.specs.Ordering.{is_gt}
use Rattle.list_laws.specs.InOrder.{in_order}
use Rattle.ta_core.specs.declared.trans.Trans.{Trans}
use Rattle.ta_core.specs.TreeAutomaton.{TreeAutomaton, trans_of, trans_cmp, pair_cmp}

-- so many fresh states
abbrev pub with_states : TreeAutomaton → ℕ → TreeAutomaton
with_states A fresh = record A { states = A.states ++ range_with_len A.next fresh; next = A.next + fresh }

-- so many fresh states, and these transitions and epsilon transitions at their places
abbrev pub grown_by : TreeAutomaton → ℕ → List Trans → List (ℕ × ℕ) → TreeAutomaton
grown_by A fresh trans eps = record {
  states = A.states ++ range_with_len A.next fresh;
  next = A.next + fresh;
  finals = A.finals;
  trans = in_order trans_cmp (A.trans ++ trans);
  eps = in_order pair_cmp (A.eps ++ eps);
}

-- p is the least target in the list, for the symbol and the arguments of the key
pub record IsLeastIn (ts : List Trans) (key : Trans) (p : ℕ) : Type 0 where
  pub has : Contains ts (trans_of key.sym key.args p)
  pub least : (q : ℕ) → Contains ts (trans_of key.sym key.args q) → p ≤ q

-- or there is none
abbrev pub HasNone : List Trans → Trans → Type 0
HasNone ts key = (q : ℕ) → Contains ts (trans_of key.sym key.args q) → ⊥

abbrev pub IsLeastOf : List Trans → Trans → Option ℕ → Type 0
IsLeastOf ts key (Some p) = IsLeastIn ts key p
IsLeastOf ts key None = HasNone ts key

abbrev pub lesser : Option ℕ → Option ℕ → Option ℕ
lesser (Some p) (Some q) = Some (min p q)
lesser (Some p) None = Some p
lesser None other = other

-- the transition stands in the list at or after the key, and each of the key's symbol and arguments at or after the transition
pub record IsNext (ts : List Trans) (key : Trans) (t : Trans) : Type 0 where
  pub has : Contains ts t
  pub on : is_gt (trans_cmp key t) ≡ false
  pub before : (q : ℕ) → Contains ts (trans_of key.sym key.args q) → is_gt (trans_cmp t (trans_of key.sym key.args q)) ≡ false

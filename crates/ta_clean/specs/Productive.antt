-- The states that some ground term runs to (TATA, section 1.1).
use Rattle.std.specs.Prelude.{◌≡◌, ℕ, List, [], ◌∷◌, map, Contains}
use Rattle.ranked_terms.specs.Terms.{config_of}
use Rattle.ranked_terms.specs.declared.term.Term.{Term}
use Rattle.ta_core.specs.TreeAutomaton.{TreeAutomaton, trans_of}
use Rattle.ta_core.specs.declared.trans.Trans.{Trans}
use Rattle.ta_core.specs.Runs.{Runs}
use Rattle.ta_core.specs.Languages.{Accepts}

-- some ground term runs to the state
pub record IsProductive (A : TreeAutomaton) (q : ℕ) : Type 0 where
  pub term : Term
  pub runs : Runs A (config_of term) q

-- the automaton accepts no ground term
abbrev pub IsEmpty : TreeAutomaton → Type 0
IsEmpty A = (t : Term) → Accepts A t → ⊥

-- ---- what serves private contracts alone

-- the automaton has one state, which is final, and for each of the transitions one of its symbol from that state as often as it has arguments
pub record HasAllTerms (ts : List Trans) (all : TreeAutomaton) : Type 0 where
  pub states : all.states ≡ 0 ∷ []
  pub final : Contains all.finals 0
  pub trans : (t : Trans) → Contains ts t → Contains all.trans (trans_of t.sym (map (λ _. 0) t.args) 0)

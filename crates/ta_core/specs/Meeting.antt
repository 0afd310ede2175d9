-- Terms that two automata have in common, and the pairs of states of both to which one term runs (TATA, section 1.3, where these are the reachable
-- states of the product automaton).
use Rattle.std.specs.Prelude.{ℕ}
use Rattle.ranked_terms.specs.Terms.{config_of}
use Rattle.ranked_terms.specs.declared.term.Term.{Term}
use Rattle.ta_core.specs.TreeAutomaton.{TreeAutomaton}
use Rattle.ta_core.specs.Runs.{Runs}
use Rattle.ta_core.specs.Languages.{Accepts}

-- one ground term runs to the first state by the one automaton, and to the second by the other
pub record Meets (A B : TreeAutomaton) (pair : ℕ × ℕ) : Type 0 where
  pub term : Term
  pub first : Runs A (config_of term) pair.0
  pub second : Runs B (config_of term) pair.1

-- no ground term is accepted by both automata
abbrev pub HaveNoCommonTerm : TreeAutomaton → TreeAutomaton → Type 0
HaveNoCommonTerm A B = (t : Term) → Accepts A t → Accepts B t → ⊥

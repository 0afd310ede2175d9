-- A pattern that is matched again and again: what a call on it sees (this project's own).
use Rattle.std.specs.Prelude.{ℕ, List}
use Rattle.ranked_terms.specs.declared.term.Pattern.{Pattern}
use Rattle.ta_core.specs.TreeAutomaton.{TreeAutomaton}

-- a pattern with its variables, in an automaton
pub record Side : Type 0 where
  pub automaton : TreeAutomaton
  pub vars : List ℕ
  pub pattern : Pattern

abbrev pub side_of : TreeAutomaton → List ℕ → Pattern → Side
side_of A vars p = record { automaton = A; vars = vars; pattern = p }

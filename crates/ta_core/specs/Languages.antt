-- The language of an automaton (TATA, section 1.1).
use Rattle.std.specs.Prelude.{List, IsTrue}
use Rattle.ranked_terms.specs.Names.{Symbol}
use Rattle.ranked_terms.specs.Terms.{config_of, is_over}
use Rattle.ranked_terms.specs.declared.term.Term.{Term}
use Rattle.ta_core.specs.TreeAutomaton.{TreeAutomaton}
use Rattle.ta_core.specs.Runs.{RunsToFinal}

-- the ground term runs to a final state
abbrev pub Accepts : TreeAutomaton → Term → Type 0
Accepts A t = RunsToFinal A (config_of t)

-- the ground terms over the signature that are accepted
pub record Language (signature : List Symbol) (A : TreeAutomaton) (t : Term) : Type 0 where
  pub over : IsTrue (is_over signature t)
  pub accepted : Accepts A t

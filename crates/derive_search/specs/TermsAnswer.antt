-- What a call for the terms of bounded height answers. This project's own.
use Rattle.std.specs.Prelude.{ℕ, List}
use Rattle.ranked_terms.specs.Names.{Symbol}
use Rattle.ranked_terms.specs.declared.term.Term.{Term}
use Rattle.ta_core.specs.TreeAutomaton.{TreeAutomaton}
use Rattle.derive_search.specs.Starts.{AreLowRuns, AreTooMany}
use Rattle.derive_search.specs.declared.low_terms.TermsEnd.{TermsEnd}
use Rattle.derive_search.specs.declared.low_terms.TermsEnd.TheVariants as ends
use Rattle.derive_search.specs.declared.low_terms.TermsEnd.TheVariants.{Over}

-- over exactly where there are too many; else the list
pub data TermsAnswer (signature : List Symbol) (A : TreeAutomaton) (height limit : ℕ) : TermsEnd → Type 0 where
  over : AreTooMany A height limit → TermsAnswer signature A height limit Over
  listed : (pairs : List (ℕ × Term)) → (AreTooMany A height limit → ⊥) → AreLowRuns signature A height pairs → TermsAnswer signature A height limit (ends.List pairs)

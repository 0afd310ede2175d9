-- Terms that two automata have in common, and their final states to which one term runs (TATA, section 1.3; the order of these is this project's own).
use Rattle.std.specs.Prelude.{◌≡◌, ◌⊎◌, ℕ, ◌<◌, ◌≤◌, Contains}
use Rattle.ranked_terms.specs.declared.term.Term.{Term}
use Rattle.ta_core.specs.TreeAutomaton.{TreeAutomaton}
use Rattle.ta_core.specs.Languages.{Accepts}
use Rattle.ta_core.specs.Meeting.{Meets}

-- both automata accept the ground term
pub record IsCommon (A B : TreeAutomaton) (t : Term) : Type 0 where
  pub first : Accepts A t
  pub second : Accepts B t

-- a final state of each automaton, to both of which one ground term runs
pub record FinalsMeet (A B : TreeAutomaton) (p q : ℕ) : Type 0 where
  pub first : Contains A.finals p
  pub second : Contains B.finals q
  pub meets : Meets A B (p, q)

-- the least such pair: by the first state, and then by the second
pub record IsLeastMeeting (A B : TreeAutomaton) (p q : ℕ) : Type 0 where
  pub meet : FinalsMeet A B p q
  pub least : (r s : ℕ) → FinalsMeet A B r s → (p < r) ⊎ ((p ≡ r) × (q ≤ s))
